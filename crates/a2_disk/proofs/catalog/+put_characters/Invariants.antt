use Rattle.a2_disk.proofs.catalog.+put_characters.Given as goal

abbrev pub decreases-put_characters : goal.decreases-put_characters
decreases-put_characters l = l.left

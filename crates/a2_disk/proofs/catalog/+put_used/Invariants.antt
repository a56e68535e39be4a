use Rattle.a2_disk.proofs.catalog.+put_used.Given as goal

abbrev pub decreases-put_used : goal.decreases-put_used
decreases-put_used l = l.left

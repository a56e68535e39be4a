use Rattle.a2_disk.proofs.contents.+put_lists.Given as goal

abbrev pub decreases-put_lists : goal.decreases-put_lists
decreases-put_lists l = l.left

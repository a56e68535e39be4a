use Rattle.a2_disk.proofs.contents.+put_listed.Given as goal

abbrev pub decreases-put_listed : goal.decreases-put_listed
decreases-put_listed l = l.left

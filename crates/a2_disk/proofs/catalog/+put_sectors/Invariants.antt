use Rattle.a2_disk.proofs.catalog.+put_sectors.Given as goal

abbrev pub decreases-put_sectors : goal.decreases-put_sectors
decreases-put_sectors l = l.left

use Rattle.a2_formats.proofs.apple.+entry_of.Given as goal

abbrev pub decreases-entry_of : goal.decreases-entry_of
decreases-entry_of l = l.left

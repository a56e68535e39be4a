use Rattle.a2_history.proofs.spacing.+is_place_kept.Given as goal

abbrev pub decreases-is_place_kept : goal.decreases-is_place_kept
decreases-is_place_kept l = l.place

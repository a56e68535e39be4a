use Rattle.a2_history.proofs.spacing.+most_places.Given as goal

abbrev pub decreases-most_places : goal.decreases-most_places
decreases-most_places l = l.places

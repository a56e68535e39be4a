use Rattle.std.proofs.Common.{◌≡◌, eqb, length}
use Rattle.std.specs.List.{slice_split}
use Rattle.a2_manual.specs.Nearer.{best_of, nearest_from}
use Rattle.a2_manual.proofs.nearest_name.nearest_of.Given as goal

-- from here on, the nearest name at the end is the same
abbrev pub invariant-loop-distance : goal.invariant-loop-distance
invariant-loop-distance g l =
    nearest_from l.capitals (best_of l.best) (slice_split (λ c. eqb c 0x2C) l.left)
    ≡ nearest_from l.capitals (best_of l.before) (slice_split (λ c. eqb c 0x2C) l.names)

abbrev pub decreases-loop-distance : goal.decreases-loop-distance
decreases-loop-distance g l = length l.left

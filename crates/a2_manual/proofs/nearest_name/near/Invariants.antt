use Rattle.std.proofs.Common.{◌≡◌, length, map, None}
use Rattle.std.specs.List.{flat_map}
use Rattle.std.specs.Char.{to_ascii_uppercase}
use Rattle.a2_manual.specs.Topics.{topics, names}
use Rattle.a2_manual.specs.Nearer.{best_of, nearest_from}
use Rattle.a2_manual.proofs.nearest_name.near.Given as goal

-- from here on, the nearest name at the end is the same
abbrev pub invariant-loop-capitals : goal.invariant-loop-capitals
invariant-loop-capitals g l =
    (nearest_from l.capitals.items (best_of l.best) (flat_map names (topics l.left))
    ≡ nearest_from l.capitals.items (record { found = None; bound = 3 }) (flat_map names (topics l.manual)))
    × (l.capitals.items ≡ map to_ascii_uppercase l.name)

abbrev pub decreases-loop-capitals : goal.decreases-loop-capitals
decreases-loop-capitals g l = length l.left

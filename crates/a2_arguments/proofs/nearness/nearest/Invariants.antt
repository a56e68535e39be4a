use Rattle.std.proofs.Common.{◌≡◌, drop, map}
use Rattle.a2_arguments.specs.Best.{best_of}
use Rattle.a2_arguments.proofs.BestLaws.{none_yet, nearest_from}
use Rattle.a2_arguments.proofs.nearness.nearest.Given as goal

-- what is nearest at the end is the same from here on
abbrev pub invariant-loop-known : goal.invariant-loop-known
invariant-loop-known l =
    nearest_from l.name (best_of l.best) (map (λ n. n.now) (drop l.known-index l.names)) ≡ nearest_from l.name none_yet (map (λ n. n.now) l.names)

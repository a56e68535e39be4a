use Rattle.std.proofs.Common.{◌≡◌, ◌≤◌, length, take, map, reverse}
use Rattle.a2_promise.specs.Grammar.{number_among}
use Rattle.a2_promise.proofs.reader.innermost.Given as goal

abbrev pub invariant-loop-number : goal.invariant-loop-number
invariant-loop-number l =
    (l.number ≤ length l.names)
    × (number_among (reverse (map (λ one. one.now) l.names)) l.name ≡ number_among (reverse (take l.number (map (λ one. one.now) l.names))) l.name)

abbrev pub decreases-loop-number : goal.decreases-loop-number
decreases-loop-number l = l.number

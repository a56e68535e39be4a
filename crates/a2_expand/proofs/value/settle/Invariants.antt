use Rattle.std.proofs.Common.{◌≡◌, reverse, length}
use Rattle.a2_expand.specs.Calculating.{settled}
use Rattle.a2_expand.proofs.value.settle.Given as goal

-- what is left to apply gives what the whole gives
abbrev pub invariant-loop-operator : goal.invariant-loop-operator
invariant-loop-operator g l =
    settled l.level (reverse l.values.items) (reverse l.waiting.items) ≡ settled l.level (reverse l.fn.values.items) (reverse l.fn.waiting.items)

abbrev pub decreases-loop-operator : goal.decreases-loop-operator
decreases-loop-operator g l = length l.waiting.items

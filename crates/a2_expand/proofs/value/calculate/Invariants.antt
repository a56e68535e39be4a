use Rattle.std.proofs.Common.{◌≡◌, drop}
use Rattle.a2_expand.specs.Expressions.{pieces}
use Rattle.a2_expand.specs.Calculating.{run, start, state}
use Rattle.a2_expand.proofs.value.calculate.Given as goal

-- the remaining tokens decide
abbrev pub invariant-loop-placed : goal.invariant-loop-placed
invariant-loop-placed g l =
    run l.constants (state l.calculator) (pieces (drop l.placed-index l.tokens)) ≡ run l.constants start (pieces l.tokens)

use Rattle.std.proofs.Common.{◌≡◌, drop}
use Rattle.a2_expand.specs.Expressions.{value_of_name}
use Rattle.a2_expand.proofs.value.constant_of.Given as goal

-- the remaining names decide
abbrev pub invariant-loop-constant : goal.invariant-loop-constant
invariant-loop-constant g l = value_of_name (drop l.constant-index l.constants) l.name ≡ value_of_name l.constants l.name

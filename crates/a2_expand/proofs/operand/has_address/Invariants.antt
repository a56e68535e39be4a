use Rattle.std.proofs.Common.{◌≡◌, drop, true}
use Rattle.std.specs.List.{list_any}
use Rattle.a2_expand.specs.Expressions.{pieces}
use Rattle.a2_expand.specs.Written.{is_unknown}
use Rattle.a2_expand.proofs.operand.has_address.Given as goal

-- an address among the remaining tokens is one of all
abbrev pub invariant-loop-placed : goal.invariant-loop-placed
invariant-loop-placed g l =
    list_any (is_unknown l.constants) (pieces (drop l.placed-index l.tokens)) ≡ true → list_any (is_unknown l.constants) (pieces l.tokens) ≡ true

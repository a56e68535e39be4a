use Rattle.std.proofs.Common.{refl}
use Rattle.std.proofs.lemmas.List.{map_push}
use Rattle.a2_syntax.proofs.OperandLaws.{before_push}
use Rattle.a2_syntax.proofs.operand.before_last.Goals as goal

pub returns-then-is_byte-clause-is : goal.returns-then-is_byte-clause-is
returns-then-is_byte-clause-is c =
    rw (c.in_ok-last.ensures.cases.0, map_push, before_push, ← c.is_byte.ensures, c.if-is_byte.true) refl

pub returns-else-is_byte-clause-is : goal.returns-else-is_byte-clause-is
returns-else-is_byte-clause-is c =
    rw (c.in_ok-last.ensures.cases.0, map_push, before_push, ← c.is_byte.ensures, c.if-is_byte.false) refl

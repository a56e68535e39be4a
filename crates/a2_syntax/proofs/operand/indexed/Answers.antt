use Rattle.std.proofs.Common.{refl}
use Rattle.std.proofs.lemmas.List.{map_push}
use Rattle.a2_syntax.proofs.OperandLaws.{before_push}
use Rattle.a2_syntax.proofs.operand.indexed.Goals as goal

pub returns-then-is_letter-clause-is : goal.returns-then-is_letter-clause-is
returns-then-is_letter-clause-is c =
    rw (c.in_ok-last.ensures.cases.0, map_push, before_push, ← c.is_letter.ensures, c.if-is_letter.true) c.before_last.ensures.is

pub returns-else-is_letter-clause-is : goal.returns-else-is_letter-clause-is
returns-else-is_letter-clause-is c =
    rw (c.in_ok-last.ensures.cases.0, map_push, before_push, ← c.is_letter.ensures, c.if-is_letter.false) refl

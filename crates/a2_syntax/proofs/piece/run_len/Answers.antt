use Rattle.std.proofs.Common.{rules}
use Rattle.a2_syntax.specs.Names.{is_name_byte}
use Rattle.a2_syntax.proofs.piece.run_len.Goals as goal

pub returns-clause-is : goal.returns-clause-is
returns-clause-is c = c.front_len.ensures.is is_name_byte (λ x b k. search rules)

use Rattle.std.proofs.Common.{rules}
use Rattle.a2_syntax.proofs.OneReading.{refused-none}
use Rattle.a2_expand.proofs.expansion.is_read.Goals as goal

-- a text with an error is not in the source language
pub returns-in-Err : goal.returns-in-Err
returns-in-Err g c = (
  λ is. search rules,
  λ read. absurd (refused-none c.args.text.now c.in-Err.field-0 read.0 (c.in-Err.ensures.refused (search rules)) read.1),
)

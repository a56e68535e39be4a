use Rattle.std.proofs.Common.{rules}
use Rattle.a2_syntax.proofs.OneReading.{refused-none}
use Rattle.a2_import.proofs.outcome.is_source.Goals as goal

-- a text with an error is not a source
pub returns-in-Err : goal.returns-in-Err
returns-in-Err g c = (
  λ is. search rules,
  λ read. absurd (refused-none c.args.text.now c.in-Err.field-0 read.0 (c.in-Err.ensures.refused (search rules)) read.1),
)

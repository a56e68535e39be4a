use Rattle.std.proofs.Common.{rules}
use Rattle.a2_syntax.proofs.OneReading.{refused-none}
use Rattle.a2_fmt.proofs.format.is_alike.Goals as goal

pub returns-in-Err : goal.returns-in-Err
returns-in-Err g c = (
  λ is. search rules,
  λ is. absurd (refused-none c.args.text.now c.in-Err.field-0 c.args.source.now (c.in-Err.ensures.refused (search rules)) is),
)

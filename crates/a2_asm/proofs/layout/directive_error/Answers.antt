use Rattle.std.proofs.Common.{arith}
use Rattle.a2_asm.specs.Entries.{entries}
use Rattle.a2_asm.specs.Layout.{names}
use Rattle.a2_asm.specs.Pass.{source_rows}
use Rattle.a2_asm.proofs.RowLaws.{known-more}
use Rattle.a2_asm.proofs.layout.directive_error.Goals as goal

pub returns-in-true-Some : goal.returns-in-true-Some
returns-in-true-Some g c = grind (arith, known-more (entries c.args.known.now) (names (source_rows c.args.lines.now)) c.requires c.args.e.now)

pub returns-in-true-None : goal.returns-in-true-None
returns-in-true-None g c = grind (arith, known-more (entries c.args.known.now) (names (source_rows c.args.lines.now)) c.requires c.args.e.now)

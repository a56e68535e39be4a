use Rattle.std.proofs.Common.{◌∙◌, arith}
use Rattle.a2_page.proofs.PageRows.{row_is}
use Rattle.a2_page.proofs.picture.cells_in_row.Goals as goal

pub returns-clause-cells : goal.returns-clause-cells
returns-clause-cells c = row_is c.args.page.now c.args.row c.from-start.result c.requires (omega arith) (c.from-start.ensures ∙ c.row_offset.ensures)

use Rattle.std.proofs.Common.{◌≡◌, ◌+◌, ◌-◌, ◌∙◌, arith}
use Rattle.a2_page.proofs.KeptRows.{row_taken}
use Rattle.a2_page.proofs.kept.take_row.Goals as goal

pub returns : goal.returns
returns c =
    let forty : c.from-start.result + 40 - c.from-start.result ≡ 40 = omega arith in
    rw (forty, c.copy_from_slice.ensures.after, ← c.cells_in_row.ensures.cells)
    (row_taken c.args.page.now c.cells_in_row.result.now c.args.row c.from-start.result c.requires c.told-page c.cells_in_row.ensures.width (c.from-start.ensures ∙ c.row_offset.ensures))

use Rattle.std.proofs.Common.{arith, rules}
use Rattle.a2_stream.proofs.Joined.{broke, broke_within}
use Rattle.a2_profile.specs.Row.{cell_text}
use Rattle.a2_profile.proofs.row.put_cells.Goals as goal

pub returns-in_err-put_cell : goal.returns-in_err-put_cell
returns-in_err-put_cell g c =
    broke _ _ _ _ (search rules)
    (broke_within (λ cell. cell_text (cell.width, cell.text.now)) c.args.cells.now c.loop-cell.cell-index _ _ _ _ (omega arith) c.loop-cell.invariant c.in_err-put_cell.ensures)

use Rattle.std.proofs.Common.{take}
use Rattle.std.specs.List.{flat_map}
use Rattle.a2_stream.specs.Stream.{Sends}
use Rattle.a2_profile.specs.Row.{cell_text}
use Rattle.a2_profile.proofs.row.put_cells.Given as goal

-- the cells so far were sent
abbrev pub invariant-loop-cell : goal.invariant-loop-cell
invariant-loop-cell g l =
    Sends (g.W.Output.taker l.fn.writer) (g.W.Output.taker l.writer) (flat_map (λ cell. cell_text (cell.width, cell.text.now)) (take l.cell-index l.cells))

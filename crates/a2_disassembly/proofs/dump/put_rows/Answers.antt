use Rattle.std.proofs.Common.{◌∙◌}
use Rattle.a2_disassembly.proofs.Rows.{next-row}
use Rattle.a2_disassembly.proofs.dump.put_rows.Goals as goal

pub loop-line-preserved : goal.loop-line-preserved
loop-line-preserved g c =
    c.in_ok-put_row.ensures
    ∙ rw c.loop-line.invariant (next-row c.args.rows.now.items c.args.lines.now c.loop-line.line-index _ c.loop-line-test.true)

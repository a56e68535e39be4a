use Rattle.std.proofs.Common.{◌∙◌}
use Rattle.a2_monitor_listing.proofs.Rows.{next-row}
use Rattle.a2_monitor_listing.proofs.object.put_lines.Goals as goal

pub loop-line-preserved : goal.loop-line-preserved
loop-line-preserved g c =
    c.in_ok-put_line.ensures
    ∙ rw c.loop-line.invariant (next-row c.args.object.now.items c.args.lines.now c.loop-line.line-index _ c.loop-line-test.true)

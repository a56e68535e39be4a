use Rattle.std.proofs.Common.{arith}
use Rattle.a2_diff.proofs.RowLaws.{rows-next, rows-end}
use Rattle.a2_diff.proofs.rows.rows_of.Goals as goal

pub loop-i-preserved : goal.loop-i-preserved
loop-i-preserved c = record {
  rows = rows-next _ _ _ _ _ _ c.loop-i.i (omega (arith, c.loop-i-test.true)) c.in_ok-at.ensures.next c.in_ok-at.ensures.rows c.loop-i.invariant.rows;
  near = omega (arith, c.in_ok-at.ensures.near, c.loop-i.invariant.near);
}

pub returns : goal.returns
returns c = rows-end _ _ _ c.loop-i.at c.loop-i.i (omega (arith, c.loop-i-test.false)) c.loop-i.invariant.rows

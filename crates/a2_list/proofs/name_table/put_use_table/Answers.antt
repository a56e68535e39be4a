use Rattle.std.proofs.Common.{refl, arith}
use Rattle.a2_page.proofs.Sending.{left_more, left_none, left_broke_off}
use Rattle.a2_stream.proofs.Joined.{broke_off}
use Rattle.a2_list.specs.NameTable.{use_head, use_row}
use Rattle.a2_list.proofs.UseLaws.{ordered-next, ordered-over}
use Rattle.a2_list.proofs.name_table.put_use_table.Goals as goal

pub returns-in_err-put_all : goal.returns-in_err-put_all
unfolding use_head
returns-in_err-put_all g c =
    rw (← c.width_of-width.ensures)
    (broke_off _ _ c.from_residual.result (use_head c.width_of-width.result) _ c.from_residual.ensures.0 (rw c.gap.ensures at c.in_err-put_all.ensures))

pub loop-name-init : goal.loop-name-init
unfolding use_head
loop-name-init g c = record {
  sent = use_head c.width_of-width.result;
  sends = rw c.gap.ensures at c.in_ok-put_all.ensures;
  parts = refl;
}

pub returns-in_err-put_use_row : goal.returns-in_err-put_use_row
returns-in_err-put_use_row g c =
    rw (← c.width_of-width.ensures)
    (left_broke_off _ _ _ c.from_residual-in_err-put_use_row.result _ _ _ _ c.from_residual-in_err-put_use_row.ensures.0
    (ordered-next (use_row c.width_of-width.result c.args.program.now.names c.args.lines.now) c.args.order.now c.loop-name.name-index _ c.loop-name-test.true)
    c.loop-name.invariant c.in_err-put_use_row.ensures)

pub loop-name-preserved : goal.loop-name-preserved
loop-name-preserved g c =
    left_more _ _ _ _ _ _ _
    (ordered-next (use_row c.width_of-width.result c.args.program.now.names c.args.lines.now) c.args.order.now c.loop-name.name-index _ c.loop-name-test.true)
    c.loop-name.invariant c.in_ok-put_use_row.ensures

pub returns : goal.returns
returns g c =
    rw (← c.width_of-width.ensures)
    (left_none _ _ _ _ (ordered-over (use_row c.width_of-width.result c.args.program.now.names c.args.lines.now) c.args.order.now c.loop-name.name-index (omega (arith, c.loop-name-test.false)))
    c.loop-name.invariant)

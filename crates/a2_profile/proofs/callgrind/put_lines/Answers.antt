use Rattle.std.proofs.Common.{arith, codes, refl}
use Rattle.a2_stream.proofs.Joined.{broke_off}
use Rattle.a2_page.proofs.Sending.{left_all, left_more, left_broke_off}
use Rattle.a2_profile.specs.Callgrind.{source_costs}
use Rattle.a2_profile.proofs.ItemLaws.{costs-next}
use Rattle.a2_profile.proofs.callgrind.put_lines.Goals as goal

pub returns-in_err-put : goal.returns-in_err-put
unfolding source_costs
returns-in_err-put g c =
    broke_off _ _ c.from_residual.result (codes "fn=THE SOURCE\n") _ c.from_residual.ensures.0 c.in_err-put.ensures

pub loop-text-init : goal.loop-text-init
unfolding source_costs
loop-text-init g c = record { counted = refl; left = left_more _ _ _ _ _ (codes "fn=THE SOURCE\n") _ refl (left_all _ _) c.in_ok-put.ensures }

pub returns-in_err-put_line : goal.returns-in_err-put_line
returns-in_err-put_line g c =
    left_broke_off _ _ _ c.from_residual-in_err-put_line.result _ _ _ _ c.from_residual-in_err-put_line.ensures.0
    (costs-next c.args.profile.now c.args.statements.now c.loop-text.number c.loop-text._text-index c.args.texts.now _ c.instruction_on-statement.ensures c.loop-text-test.true)
    c.loop-text.invariant.left c.in_err-put_line.ensures

pub loop-text-preserved : goal.loop-text-preserved
loop-text-preserved g c = record {
  counted = omega (arith, c.loop-text.invariant.counted);
  left = left_more _ _ _ _ _ _ _
      (costs-next c.args.profile.now c.args.statements.now c.loop-text.number c.loop-text._text-index c.args.texts.now _ c.instruction_on-statement.ensures c.loop-text-test.true)
      c.loop-text.invariant.left c.in_ok-put_line.ensures;
}

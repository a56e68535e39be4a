use Rattle.std.proofs.Common.{arith, codes, map, refl}
use Rattle.a2_stream.proofs.Joined.{broke_off}
use Rattle.a2_page.proofs.Sending.{left_more, left_broke_off}
use Rattle.a2_profile.specs.Json.{line_objects, lines_array}
use Rattle.a2_profile.proofs.ItemLaws.{left_items, following-next, objects-next}
use Rattle.a2_profile.proofs.json.put_lines.Goals as goal

pub returns-in_err-put : goal.returns-in_err-put
unfolding lines_array
returns-in_err-put g c =
    broke_off _ _ c.from_residual.result (codes "],\n\"lines\":[\n") _ c.from_residual.ensures.0 c.in_err-put.ensures

pub loop-text-init : goal.loop-text-init
unfolding lines_array
loop-text-init g c = record {
  counted = refl;
  left = left_items _ _ (codes "],\n\"lines\":[\n") _ (line_objects c.args.profile.now c.args.statements.now 1 (map (λ x. x.now) c.args.texts.now))
      c.as_slice-front.ensures c.in_ok-put.ensures;
}

pub returns-in_err-put_line : goal.returns-in_err-put_line
returns-in_err-put_line g c =
    left_broke_off _ _ _ c.from_residual-in_err-put_line.result _ _ _ _ c.from_residual-in_err-put_line.ensures.0
    (following-next c.loop-text.front.now _ _ _
    (objects-next c.args.profile.now c.args.statements.now c.loop-text.number c.loop-text.text-index c.args.texts.now _ _ c.instruction_on-statement.ensures c.loop-text-test.true))
    c.loop-text.invariant.left c.in_err-put_line.ensures

pub loop-text-preserved : goal.loop-text-preserved
loop-text-preserved g c = record {
  counted = omega (arith, c.loop-text.invariant.counted);
  left = left_more _ _ _ _ _ _ _
      (following-next c.loop-text.front.now _ _ _
      (objects-next c.args.profile.now c.args.statements.now c.loop-text.number c.loop-text.text-index c.args.texts.now _ _ c.instruction_on-statement.ensures c.loop-text-test.true))
      c.loop-text.invariant.left c.in_ok-put_line.ensures;
}

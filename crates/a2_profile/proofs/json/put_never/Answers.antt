use Rattle.a2_stream.proofs.Joined.{broke_off}
use Rattle.a2_page.proofs.Sending.{left_more, left_broke_off}
use Rattle.std.proofs.Common.{ap, sym, codes, ◌∙◌}
use Rattle.a2_profile.specs.Json.{never_numbers, never_array}
use Rattle.a2_profile.proofs.ItemLaws.{following, left_items, left_same, following-next, numbers-next, numbers-skip}
use Rattle.a2_profile.proofs.json.put_never.Goals as goal
use Rattle.a2_profile.proofs.json.put_never.Goals.{then-is_never_done+in_ok-put_number, else-is_never_done}

pub returns-in_err-put : goal.returns-in_err-put
unfolding never_array
returns-in_err-put g c =
    broke_off _ _ c.from_residual.result (codes "],\n\"never\":[\n") _ c.from_residual.ensures.0 c.in_err-put.ensures

pub loop-statement-init : goal.loop-statement-init
unfolding never_array
loop-statement-init g c =
    left_items _ _ (codes "],\n\"never\":[\n") _ (never_numbers c.args.profile.now c.args.statements.now) c.as_slice-front.ensures c.in_ok-put.ensures

pub returns-in_err-put_number : goal.returns-in_err-put_number
returns-in_err-put_number g c =
    left_broke_off _ _ _ c.from_residual-in_err-put_number.result _ _ _ _ c.from_residual-in_err-put_number.ensures.0
    (following-next c.loop-statement.front.now _ _ _
    (numbers-next c.args.profile.now c.args.statements.now c.loop-statement.statement-index _ c.loop-statement-test.true (sym c.is_never_done.ensures ∙ c.if-is_never_done.true)))
    c.loop-statement.invariant c.in_err-put_number.ensures

pub loop-statement-preserved : goal.loop-statement-preserved
loop-statement-preserved g c = elim c.if-is_never_done.branch [
  | then-is_never_done+in_ok-put_number w ↦ rw (w.writer-is, w.front-is) (
      left_more _ _ _ _ _ _ _
      (following-next c.loop-statement.front.now _ _ _
      (numbers-next c.args.profile.now c.args.statements.now c.loop-statement.statement-index _ c.loop-statement-test.true (sym c.is_never_done.ensures ∙ w.if-is_never_done.true)))
      c.loop-statement.invariant w.in_ok-put_number.ensures
      )
  | else-is_never_done w ↦ rw (w.writer-is, w.front-is) (
      left_same _ _ _ _ _
      (ap (following c.loop-statement.front.now)
      (numbers-skip c.args.profile.now c.args.statements.now c.loop-statement.statement-index _ c.loop-statement-test.true (sym c.is_never_done.ensures ∙ w.if-is_never_done.false)))
      c.loop-statement.invariant
      )
]

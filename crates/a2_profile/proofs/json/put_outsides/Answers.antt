use Rattle.std.proofs.Common.{◌-◌, ap, sym, codes, refl, append_assoc, ◌∙◌, arith}
use Rattle.a2_stream.proofs.Joined.{broke_off}
use Rattle.a2_page.proofs.Sending.{left_more, left_none, left_broke_off}
use Rattle.a2_profile.specs.Table.{is_outside}
use Rattle.a2_profile.specs.Json.{addresses_from, outside_object, outside_objects, outside_array}
use Rattle.a2_profile.proofs.ItemLaws.{following, left_items, left_same, following-next, shown-next, shown-skip, shown-over}
use Rattle.a2_profile.proofs.json.put_outsides.Goals as goal
use Rattle.a2_profile.proofs.json.put_outsides.Goals.{then-is_outside+in_ok-put-2+in_ok-put_count, else-is_outside}

pub returns-in_err-put : goal.returns-in_err-put
unfolding outside_array
returns-in_err-put g c =
    broke_off _ _ c.from_residual.result (codes "],\n\"outside\":[\n") _ c.from_residual.ensures.0 c.in_err-put.ensures

pub loop-address-init : goal.loop-address-init
unfolding outside_array
loop-address-init g c =
    left_items _ _ (codes "],\n\"outside\":[\n") _ (outside_objects c.args.program.now.statements c.args.profile.now (addresses_from 0 65536))
    c.as_slice-front.ensures c.in_ok-put.ensures

pub returns : goal.returns
returns g c =
    left_none _ _ _ _
    (ap (following c.loop-address.front.now) (shown-over (is_outside c.args.program.now.statements c.args.profile.now) (outside_object c.args.profile.now) c.loop-address.address (65536 - c.loop-address.address) (omega (arith, c.loop-address-test.false))))
    c.loop-address.invariant

pub returns-in_err-put-2 : goal.returns-in_err-put-2
returns-in_err-put-2 g c =
    let first = following-next c.loop-address.front.now _ _ _
    (shown-next (is_outside c.args.program.now.statements c.args.profile.now) (outside_object c.args.profile.now) c.loop-address.address 65536 (omega (arith, c.loop-address-test.true)) (sym c.is_outside.ensures ∙ c.if-is_outside.true)) in
    left_broke_off _ _ _ c.from_residual-in_err-put-2.result _ _ _ _ c.from_residual-in_err-put-2.ensures.0
    (first ∙ append_assoc c.loop-address.front.now _ _) c.loop-address.invariant c.in_err-put-2.ensures

pub returns-in_err-put_count : goal.returns-in_err-put_count
returns-in_err-put_count g c =
    let first = following-next c.loop-address.front.now _ _ _
    (shown-next (is_outside c.args.program.now.statements c.args.profile.now) (outside_object c.args.profile.now) c.loop-address.address 65536 (omega (arith, c.loop-address-test.true)) (sym c.is_outside.ensures ∙ c.if-is_outside.true)) in
    left_broke_off _ _ _ c.from_residual-in_err-put_count.result _ _ _ _ c.from_residual-in_err-put_count.ensures.0
    refl (left_more _ _ _ _ _ _ _ (first ∙ append_assoc c.loop-address.front.now _ _) c.loop-address.invariant c.in_ok-put-2.ensures)
    (rw c.at.ensures.count at c.in_err-put_count.ensures)

pub loop-address-preserved : goal.loop-address-preserved
loop-address-preserved g c = elim c.if-is_outside.branch [
  | then-is_outside+in_ok-put-2+in_ok-put_count w ↦ rw (w.writer-is, w.front-is) (
      let first = following-next c.loop-address.front.now _ _ _
      (shown-next (is_outside c.args.program.now.statements c.args.profile.now) (outside_object c.args.profile.now) c.loop-address.address 65536 (omega (arith, c.loop-address-test.true)) (sym c.is_outside.ensures ∙ w.if-is_outside.true)) in
      left_more _ _ _ _ _ _ _ refl (left_more _ _ _ _ _ _ _ (first ∙ append_assoc c.loop-address.front.now _ _) c.loop-address.invariant w.in_ok-put-2.ensures)
      (rw w.at.ensures.count at w.in_ok-put_count.ensures)
      )
  | else-is_outside w ↦ rw (w.writer-is, w.front-is) (
      left_same _ _ _ _ _
      (ap (following c.loop-address.front.now)
      (shown-skip (is_outside c.args.program.now.statements c.args.profile.now) (outside_object c.args.profile.now) c.loop-address.address 65536 (omega (arith, c.loop-address-test.true)) (sym c.is_outside.ensures ∙ w.if-is_outside.false)))
      c.loop-address.invariant
      )
]

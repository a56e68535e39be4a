use Rattle.std.proofs.Common.{◌-◌, ap, sym, codes, ◌∙◌, arith}
use Rattle.a2_stream.proofs.Joined.{broke_off}
use Rattle.a2_page.proofs.Sending.{left_more, left_none, left_broke_off}
use Rattle.a2_asm.specs.Entries.{entries}
use Rattle.a2_profile.specs.Json.{addresses_from, is_entered, routine_object, routine_objects, routines_array}
use Rattle.a2_profile.proofs.ItemLaws.{following, left_items, left_same, following-next, shown-next, shown-skip, shown-over}
use Rattle.a2_profile.proofs.routine_json.put_routines.Goals as goal
use Rattle.a2_profile.proofs.routine_json.put_routines.Goals.{then-is_entered+in_ok-put_routine, else-is_entered}

pub returns-in_err-put : goal.returns-in_err-put
unfolding routines_array
returns-in_err-put g c =
    broke_off _ _ c.from_residual.result (codes ",\n\"routines\":[\n") _ c.from_residual.ensures.0 c.in_err-put.ensures

pub loop-address-init : goal.loop-address-init
unfolding routines_array
loop-address-init g c =
    left_items _ _ (codes ",\n\"routines\":[\n") _ (routine_objects (entries c.args.names.now) c.args.profile.now (addresses_from 0 65536))
    c.as_slice-front.ensures c.in_ok-put.ensures

pub returns : goal.returns
returns g c =
    left_none _ _ _ _
    (ap (following c.loop-address.front.now) (shown-over (is_entered c.args.profile.now) (routine_object (entries c.args.names.now) c.args.profile.now) c.loop-address.address (65536 - c.loop-address.address) (omega (arith, c.loop-address-test.false))))
    c.loop-address.invariant

pub returns-in_err-put_routine : goal.returns-in_err-put_routine
returns-in_err-put_routine g c =
    left_broke_off _ _ _ c.from_residual-in_err-put_routine.result _ _ _ _ c.from_residual-in_err-put_routine.ensures.0
    (following-next c.loop-address.front.now _ _ _
    (shown-next (is_entered c.args.profile.now) (routine_object (entries c.args.names.now) c.args.profile.now) c.loop-address.address 65536 (omega (arith, c.loop-address-test.true)) (sym c.is_entered.ensures ∙ c.if-is_entered.true)))
    c.loop-address.invariant c.in_err-put_routine.ensures

pub loop-address-preserved : goal.loop-address-preserved
loop-address-preserved g c = elim c.if-is_entered.branch [
  | then-is_entered+in_ok-put_routine w ↦ rw (w.writer-is, w.front-is) (
      left_more _ _ _ _ _ _ _
      (following-next c.loop-address.front.now _ _ _
      (shown-next (is_entered c.args.profile.now) (routine_object (entries c.args.names.now) c.args.profile.now) c.loop-address.address 65536 (omega (arith, c.loop-address-test.true)) (sym c.is_entered.ensures ∙ w.if-is_entered.true)))
      c.loop-address.invariant w.in_ok-put_routine.ensures
      )
  | else-is_entered w ↦ rw (w.writer-is, w.front-is) (
      left_same _ _ _ _ _
      (ap (following c.loop-address.front.now)
      (shown-skip (is_entered c.args.profile.now) (routine_object (entries c.args.names.now) c.args.profile.now) c.loop-address.address 65536 (omega (arith, c.loop-address-test.true)) (sym c.is_entered.ensures ∙ w.if-is_entered.false)))
      c.loop-address.invariant
      )
]

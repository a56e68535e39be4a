use Rattle.std.specs.Prelude.{◌||◌, ◌&&◌, not, is_some}
use Rattle.std.specs.List.{list_any}
use Rattle.std.proofs.Common.{sym, ◌∙◌, subst}
use Rattle.a2_hex.specs.Images.{held}
use Rattle.a2_bus.specs.Memory.{ram_end}
use Rattle.a2_footprint.specs.RotatedStack.{in_stack}
use Rattle.a2_promise_certify.specs.Certifying.{AreMarkedWhere}
use Rattle.a2_promise_certify.specs.Settling.{AreSettled}
use Rattle.a2_promise_certify.specs.States.{is_byte}
use Rattle.a2_promise_certify.proofs.Trying.{in_every_world}
use Rattle.a2_promise_certify.proofs.every_state.holds_in_every_state.Goals as goal

pub returns : goal.returns
returns c = λ is.
    let inputs = c.args.inputs.now in
    in_every_world (held c.args.image.now) c.as_slice-2.result.now c.parts_at-parts.result c.args.promise.now c.args.most c.load.new.self c.settle.new.space
    inputs c.as_slice-free.result.now c.get-first.ensures.image (sym c.are_free.ensures ∙ c.if-not-are_free.false) c.load.ensures.size
    c.load.ensures.memory
    (subst (λ clauses. AreSettled clauses inputs inputs c.as_slice-free.result.now c.load.new.self c.settle.new.space) c.as_slice.ensures.value
    (subst (λ free. AreSettled c.as_slice.result.now inputs inputs free c.load.new.self c.settle.new.space) (sym c.as_slice-free.ensures.value)
    c.in_ok-unsettled.ensures))
    (subst (λ marks. AreMarkedWhere (λ a. (list_any (is_byte a) inputs || is_some (held c.args.image.now a)) && not (in_stack a)) marks ram_end)
    (sym c.as_slice-2.ensures.value) c.in_ok-known.ensures)
    c.parts_at-parts.ensures c.promises_hold_everywhere.ensures c.in-Some.states c.in-Some.ensures (c.are_tried.ensures is)

use Rattle.std.proofs.Common.{subst, sym, ◌∙◌}
use Rattle.a2_bus.specs.BusState.{BusState}
use Rattle.a2_services.specs.World.{World}
use Rattle.a2_promise_certify.specs.But.{IsEqualExcept}
use Rattle.a2_promise_certify.specs.Certifying.{IsStateTried}
use Rattle.a2_promise_certify.specs.States.{has_byte}
use Rattle.a2_promise_certify.specs.Walking.{is_set}
use Rattle.a2_promise_certify.proofs.every_state.is_state_tried.Goals as goal

pub returns-clause-tried : goal.returns-clause-tried
returns-clause-tried c = λ _.
    let setup = c.args.setup.now in
    subst (λ (w : World). IsStateTried setup.known.now setup.parts setup.promise.now setup.most w)
    (c.enter.ensures.entered c.if-not-enter.false).world (c.is_tried.ensures.tried c.if-not-is_tried.false)

pub returns-clause-ready : goal.returns-clause-ready
returns-clause-ready c = λ _.
    let setup = c.args.setup.now in
    let before = c.enter.new.before in
    let rest = c.enter.ensures.rest in
    let but = c.is_tried.ensures.rest c.if-not-is_tried.false
    (c.are_devices_first.ensures.first c.if-not-are_devices_first.false ∙ sym (rest.devices ∙ c.requires.devices)) in
    let taken = c.take_back.ensures.space
    (subst (λ (b : BusState). IsEqualExcept (is_set c.is_tried.new.stored) b before) (sym c.are_devices_first.ensures.kept) but) in
    record {
      before_is = c.put_back_inputs.ensures rest;
      space_is = subst (λ (b : BusState). IsEqualExcept (has_byte setup.inputs.now) b setup.base.now) (sym taken) rest;
      clear = c.take_back.ensures.clear;
    }

use Rattle.std.proofs.Common.{subst, sym, ◌∙◌, true≢false}
use Rattle.a2_bus.specs.BusState.{BusState}
use Rattle.a2_bus.specs.View.{memory_of}
use Rattle.a2_effect.specs.View.{registers_of}
use Rattle.a2_services.specs.World.{world_of}
use Rattle.a2_promise.specs.Values.{moment_of}
use Rattle.a2_promise_certify.specs.But.{IsEqualExcept}
use Rattle.a2_promise_certify.specs.Kept.{bytes_of, known_by}
use Rattle.a2_promise_certify.specs.Looking.{known_of}
use Rattle.a2_promise_certify.specs.Walking.{is_set, known_now, knows_part}
use Rattle.a2_promise_certify.proofs.But.{itself}
use Rattle.a2_promise_certify.proofs.Certifying.{tried_by}
use Rattle.a2_promise_certify.proofs.one_state.is_tried.Goals as goal

pub returns-then-not-all_hold-clause-tried : goal.returns-then-not-all_hold-clause-tried
returns-then-not-all_hold-clause-tried c = λ _.
    let setup = c.args.setup.now in
    let walk = c.args.walk.now in
    tried_by setup.known.now setup.parts setup.promise.now setup.most (world_of (registers_of walk.regs) walk.space 0)
    c.as_slice-wanted.result.now c.as_slice-wanted.ensures.value (known_of c.view_of_entry-entry.result)
    (λ i. known_by (known_now (c.view_of_entry-entry.ensures.known i) (c.view_of_entry-entry.ensures.stored i))
    (knows_part (c.view_of_entry-entry.ensures.parts i)))
    (moment_of c.view_of_entry-entry.result.sight)
    (c.view_of_entry-entry.ensures.moment
    ∙ (λ i. record { registers = registers_of walk.regs; bytes = bytes_of (memory_of (c.requires.space i)); cycles = 0; steps = 0 }))
    (c.are_clauses_known.ensures c.if-not-are_clauses_known.false)
    (λ holds. absurd (true≢false (sym holds ∙ sym c.all_hold.ensures ∙ c.if-not-all_hold.true)))

pub returns-clause-tried : goal.returns-clause-tried
returns-clause-tried c = λ is.
    let setup = c.args.setup.now in
    let walk = c.args.walk.now in
    tried_by setup.known.now setup.parts setup.promise.now setup.most (world_of (registers_of walk.regs) walk.space 0)
    c.as_slice-wanted.result.now c.as_slice-wanted.ensures.value (known_of c.view_of_entry-entry.result)
    (λ i. known_by (known_now (c.view_of_entry-entry.ensures.known i) (c.view_of_entry-entry.ensures.stored i))
    (knows_part (c.view_of_entry-entry.ensures.parts i)))
    (moment_of c.view_of_entry-entry.result.sight)
    (c.view_of_entry-entry.ensures.moment
    ∙ (λ i. record { registers = registers_of walk.regs; bytes = bytes_of (memory_of (c.requires.space i)); cycles = 0; steps = 0 }))
    (c.are_clauses_known.ensures c.if-not-are_clauses_known.false)
    (λ holds. c.is_kept.ensures.kept is)

pub returns-then-not-all_hold-clause-rest : goal.returns-then-not-all_hold-clause-rest
returns-then-not-all_hold-clause-rest c = λ _ _.
    let walk = c.args.walk.now in
    subst (λ (b : BusState). IsEqualExcept (is_set c.args.stored.now) walk.space b) (sym c.requires.space) (itself (is_set c.args.stored.now) walk.space)

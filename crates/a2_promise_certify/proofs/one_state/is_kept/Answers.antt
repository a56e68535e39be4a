use Rattle.std.specs.Prelude.{List, Bool, length}
use Rattle.std.proofs.Common.{ap, subst, sym, ◌∙◌}
use Rattle.a2_bus.specs.BusState.{BusState}
use Rattle.a2_effect.specs.View.{registers_of}
use Rattle.a2_promise.specs.Values.{moment_of}
use Rattle.a2_promise_certify.specs.But.{IsEqualExcept}
use Rattle.a2_promise_certify.specs.Kept.{AreClausesKnown, known_by}
use Rattle.a2_promise_certify.specs.Looking.{known_of}
use Rattle.a2_promise_certify.specs.Walking.{is_set, known_now, knows_part}
use Rattle.a2_promise_certify.proofs.Certifying.{kept_by, left_by_walk}
use Rattle.a2_promise_certify.proofs.one_state.is_kept.Goals as goal

pub returns-then-are_clauses_known-clause-kept : goal.returns-then-are_clauses_known-clause-kept
returns-then-are_clauses_known-clause-kept c = λ is.
    let setup = c.args.setup.now in
    let walk = c.args.walk.now in
    let home = c.run_to_own_rts.new.walk in
    let following = c.step_out.new.walk in
    let clauses = c.as_slice-promised.result.now in
    let known = known_of c.view_of_entry-entry.result in
    let entry = moment_of c.view_of_entry-entry.result.sight in
    let exit = moment_of c.sight_of.result in
    let looks = subst (λ (marks : List Bool). AreClausesKnown clauses known (known_by (known_now setup.known.now marks) (knows_part following.parts)) entry exit)
    c.marks.ensures (c.are_clauses_known.ensures c.if-are_clauses_known.true) in
    kept_by setup.known.now c.run_to_own_rts.new.stored setup.parts walk.parts home.parts following.parts setup.promise.now setup.most (registers_of walk.regs)
    walk.space c.args.before.now (registers_of home.regs) home.space home.cycles c.in-Some.steps c.requires.first_parts c.requires.space c.step_out.ensures.parts
    c.in-Some.ensures.0 c.in-Some.ensures.1 (c.are_registers_kept.ensures c.if-not-are_registers_kept.false)
    (registers_of following.regs) following.space c.in-Some-step_out.cycles c.in-Some-step_out.ensures.made
    clauses c.as_slice-promised.ensures.value known
    (λ i. known_by (known_now (c.view_of_entry-entry.ensures.known i) (c.view_of_entry-entry.ensures.stored i))
    (knows_part (c.view_of_entry-entry.ensures.parts i)))
    entry exit c.view_of_entry-entry.ensures.moment c.sight_of.ensures.moment looks (sym c.all_hold.ensures ∙ is)

pub returns-then-are_clauses_known-clause-rest : goal.returns-then-are_clauses_known-clause-rest
returns-then-are_clauses_known-clause-rest c = λ is devices.
    let setup = c.args.setup.now in
    let walk = c.args.walk.now in
    let home = c.run_to_own_rts.new.walk in
    let following = c.step_out.new.walk in
    let before = c.args.before.now in
    subst (λ (b : BusState). IsEqualExcept (is_set c.run_to_own_rts.new.stored) following.space b) (sym c.requires.space)
    (left_by_walk setup.known.now c.run_to_own_rts.new.stored walk.parts home.parts setup.promise.now (registers_of walk.regs) walk.space
    (registers_of home.regs) home.space home.cycles c.in-Some.steps c.in-Some.ensures.1
    (registers_of following.regs) following.space c.in-Some-step_out.cycles c.in-Some-step_out.ensures.made
    (ap (λ (b : BusState). length b.bytes) (sym c.requires.space) ∙ c.view_of_entry-entry.ensures.size) c.sight_of.ensures.size
    (devices ∙ ap (λ (b : BusState). b.devices) c.requires.space))

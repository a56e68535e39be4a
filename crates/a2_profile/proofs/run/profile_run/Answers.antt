use Rattle.std.proofs.Common.{ap, arith}
use Rattle.a2_machine.specs.State.{Device}
use Rattle.a2_profile.proofs.Counting.{profiled}
use Rattle.a2_profile.proofs.run.profile_run.Goals as goal

pub profile-profile-requires : goal.profile-profile-requires
profile-profile-requires g c =
    let steps = ap (λ (d : Device). d.state.steps) c.machine-machine.ensures in
    let cycles = ap (λ (d : Device). d.state.cycles) c.machine-machine.ensures in
    let done = profiled c.in_ok-ended.ended c.in_ok-counting.counting c.observed.new.observer c.in_ok-ended.ensures.ended
    (omega (arith, steps, c.steps.ensures, c.steps.type_inv)) (omega (arith, cycles, c.cycles.ensures, c.cycles.type_inv)) c.in_ok-counting.ensures
    c.is_whole.ensures c.in_ok-ended.ensures.seen in
    rw (c.steps.ensures, c.cycles.ensures, c.machine-machine.ensures) done.summed

pub returns-clause-counted : goal.returns-clause-counted
returns-clause-counted g c =
    let steps = ap (λ (d : Device). d.state.steps) c.machine-machine.ensures in
    let cycles = ap (λ (d : Device). d.state.cycles) c.machine-machine.ensures in
    let done = profiled c.in_ok-ended.ended c.in_ok-counting.counting c.observed.new.observer c.in_ok-ended.ensures.ended
    (omega (arith, steps, c.steps.ensures, c.steps.type_inv)) (omega (arith, cycles, c.cycles.ensures, c.cycles.type_inv)) c.in_ok-counting.ensures
    c.is_whole.ensures c.in_ok-ended.ensures.seen in
    let run = c.in_ok-ended.ensures.run in
    rw (c.profile-profile.ensures, c.cause.ensures, ← run.0, ← run.1, ← run.2, ← run.3, ← run.4) done.is_profile

-- The number of steps of a run.
use Rattle.std.proofs.Common.{◌≡◌, ℕ, ◌+◌, ◌-◌, ◌≤◌, ap, arith}
use Rattle.a2_services.specs.World.{World}
use Rattle.a2_machine.specs.declared.causes.Cause.{Cause}
use Rattle.a2_monitor.specs.SessionStates.{SessionState, IsFreeRun}

steps_are : (start : World) (limit : ℕ) (old new : SessionState) (cause : Cause) (h : IsFreeRun start limit old new cause) → new.steps ≡ old.steps + h.end.steps
steps_are start limit old new cause h = ap (λ (s : SessionState). s.steps) h.left

pub run_more : (start : World) (limit : ℕ) (old new : SessionState) (cause : Cause) → IsFreeRun start limit old new cause → old.steps ≤ new.steps
run_more start limit old new cause h = omega (arith, steps_are start limit old new cause h)

pub run_few : (start : World) (limit : ℕ) (old new : SessionState) (cause : Cause) → IsFreeRun start limit old new cause → new.steps - old.steps ≤ limit
run_few start limit old new cause h = omega (arith, steps_are start limit old new cause h, h.runs.within)

-- How moving forwards ended.
use Rattle.std.proofs.Common.{◌≡◌, ◌⊎◌, inl, inr, ℕ, ◌+◌, ◌-◌, ◌<◌, ◌≤◌, Bool, false, Some, None, [], length, sym, ap, subst, ◌∙◌, arith}
use Rattle.a2_bus.specs.View.{memory_of}
use Rattle.a2_services.specs.World.{World}
use Rattle.a2_machine.specs.declared.causes.Cause.{Cause}
use Rattle.a2_machine.specs.declared.causes.Cause.TheVariants.{Limit}
use Rattle.a2_machine.specs.ByteRun.{bytes}
use Rattle.a2_machine.specs.Meaning.{Code, stuck}
use Rattle.a2_machine.specs.State.{MachineState, Device, world_of_state, code_of, steps_left}
use Rattle.a2_machine.specs.State as machine
use Rattle.a2_history.specs.declared.Halt.{Halt}
use Rattle.a2_history.specs.declared.Halt.TheVariants.{Seen, Stopped}
use Rattle.a2_history.specs.Courses.{Course, with_logged, arrived, world_on, NoneStuck}
use Rattle.a2_history.specs.Going.{IsOn, Advances}
use Rattle.a2_history.specs.Gone.{IsCauseAt, HasRunTo}

-- A machine that has not executed any step is at its start.
pub on-new : (course : Course) (state : MachineState) → course ≡ (let fresh : Course = record { origin = state; log = [] } in fresh) → state.steps ≡ 0 → IsOn course state
unfolding world_on arrived with_logged
on-new course state is none =
    let fresh : Course = record { origin = state; log = [] } in
    let on : IsOn fresh state = record { world = ap (λ n. world_on fresh n) (sym none); went = λ k l. absurd (omega (arith, l, none)) } in
    subst (λ (k : Course). IsOn k state) (sym is) on

-- how many keys wait
pub waiting-keys : (state : MachineState) (w : World) → world_of_state state ≡ w → length w.memory.devices.keys ≡ length state.bus.devices.keys
unfolding memory_of
waiting-keys state w e = ap (λ (v : World). length v.memory.devices.keys) (sym e)

-- Nothing is seen after one more step.
pub passed-next : (seen : World → Bool) (course : Course) (from n : ℕ) (state : MachineState) (r : Bool) → ((k : ℕ) → from < k → k ≤ n → seen (world_on course k) ≡ false)
    → IsOn course state → state.steps ≡ n + 1 → r ≡ seen (world_of_state state) → r ≡ false
    → (k : ℕ) → from < k → k ≤ n + 1 → seen (world_on course k) ≡ false
passed-next seen course from n state r before on at is not k l m = go (split k m)
  where
    split : (k : ℕ) → k ≤ n + 1 → (k ≤ n) ⊎ (k ≡ n + 1)
    split k m = grind (arith, m)

    here : seen (world_on course (n + 1)) ≡ false
    here = ap seen (ap (world_on course) (sym at) ∙ sym on.world) ∙ sym is ∙ not

    go : (k ≤ n) ⊎ (k ≡ n + 1) → seen (world_on course k) ≡ false
    go (inl le) = before k l le
    go (inr e) = subst (λ (j : ℕ). seen (world_on course j) ≡ false) (sym e) here

-- A run of no steps returns the cause.
pub run-kept : (old new : Device) (cause : Cause) → machine.IsMachineRun 0 old new cause → new ≡ old
run-kept old new cause run =
    let none : new.state.steps - old.state.steps ≡ 0 = omega (arith, run.end.within) in
    run.none (omega (arith, none, run.more))

pub run-cause : (old new : Device) (cause : Cause) → machine.IsMachineRun 0 old new cause → IsCauseAt old.state cause
run-cause old new cause run = why (subst (λ d. Why d) (run-kept old new cause run) run.end.cause)
  where
    Why : Device → Type 0
    Why d = (stuck (code_of old.state) (world_of_state d.state) ≡ Some cause)
        ⊎ ((stuck (code_of old.state) (world_of_state d.state) ≡ None) × (new.state.steps - old.state.steps ≡ steps_left 0 old.state) × (cause ≡ Limit))

    why : Why old → IsCauseAt old.state cause
    why (inl is) = inl is
    why (inr is) = inr (is.0, is.2)

-- If something was seen or the machine was stuck before the end, that is reported.
pub gone-some : (seen : World → Bool) (course : Course) (from end to : ℕ) (halt : Halt) → HasRunTo seen course from end to (Some halt) → NoneStuck course to
    → Advances seen course from end to halt
gone-some seen course from end to Seen gone went =
    record { ahead = gone.ahead; within = gone.within; passed = gone.passed; went = went; ends = gone.why_is }
gone-some seen course from end to (Stopped cause) gone went =
    record { ahead = gone.ahead; within = gone.within; passed = gone.passed; went = went; ends = (gone.why_is.0, inl gone.why_is.1) }

-- At the end, the machine's cause is reported.
pub gone-none : (seen : World → Bool) (course : Course) (from end to : ℕ) (state : MachineState) (cause : Cause) → HasRunTo seen course from end to None
    → IsOn course state → state.guard ≡ course.origin.guard → state.steps ≡ to → IsCauseAt state cause → Advances seen course from end to (Stopped cause)
gone-none seen course from end to state cause gone on guarded at is =
    record {
      ahead = gone.ahead;
      within = gone.within;
      passed = gone.passed;
      went = λ k l. on.went k (omega (arith, l, at));
      ends = (gone.why_is.1, told is);
    }
  where
    here : stuck (code_of state) (world_of_state state) ≡ stuck (code_of course.origin) (world_on course to)
    here = ap (λ (k : Code). stuck k (world_of_state state)) (ap bytes guarded) ∙ ap (stuck (code_of course.origin)) (on.world ∙ ap (world_on course) at)

    told : IsCauseAt state cause → (stuck (code_of course.origin) (world_on course to) ≡ Some cause)
        ⊎ ((stuck (code_of course.origin) (world_on course to) ≡ None) × (to ≡ end) × (cause ≡ Limit))
    told (inl s) = inl (sym here ∙ s)
    told (inr n) = inr (sym here ∙ n.0, gone.why_is.0, n.1)

-- A machine's run from a program's start ends where the program's run does.
use Rattle.std.proofs.Common.{◌≡◌, ◌∙◌, ap₂, ℕ, suc, ◌≤◌, Bool, List, length, Option, arith, refl, sym, subst}
use Rattle.a2_burst.specs.Shown.{Shown}
use Rattle.a2_services.specs.World.{World}
use Rattle.a2_asm.specs.Assembled.{Assembled}
use Rattle.a2_asm.specs.Programs.{IsSound}
use Rattle.a2_machine.specs.declared.causes.Cause.{Cause}
use Rattle.a2_machine.specs.ByteRun.{Guard, bytes}
use Rattle.a2_machine.specs.Looks.{shown_between, observer_after}
use Rattle.a2_machine.specs.Meaning.{Code, End}
use Rattle.a2_machine.specs.State.{Device, MachineState, world_of_state, code_of}
use Rattle.a2_run.specs.Meaning.{code_of_run, start_of_run}
use Rattle.a2_run.specs.Started.{IsStarted, guard_of_run}
use Rattle.a2_timed_keys.specs.declared.strokes.Typed.{Typed}
use Rattle.a2_timed_keys.specs.Typed.{keys_at, with_keys, world_with_keys, IsTypedRun, IsTypedStop, IsOverfull, IsRunning, AreCopies}
use Rattle.a2_timed_keys.specs.Rerun.{shown_in}
use Rattle.a2_timed_keys.proofs.Meant.{typed_meant, overfull_meant, world_meant}
use Rattle.a2_timed_keys.proofs.Running.{running_start}
use Rattle.a2_timed_keys.proofs.Seeing.{alike}

-- the end of the run of the bytes is that of the program's run
pub typed_ended_of : (program : Assembled) (keys : List ℕ) (log : List Typed) (limit : ℕ) (free : Bool) (new : MachineState) (cause : Cause)
    → IsSound program → IsTypedStop (bytes (guard_of_run free program)) (start_of_run program keys) log limit new cause
    → IsTypedRun program keys log limit free new cause
typed_ended_of program keys log limit free new cause sound stop = record {
  end = end;
  is_end = typed_meant free program keys log limit end sound stop.end;
  world_is = refl;
  steps_are = refl;
  cause_is = refl;
}
  where
    end : End
    end = record { world = world_of_state new; steps = new.steps; cause = cause }

-- a machine's run from a program's start ends where that of the bytes does
pub stop_of : (program : Assembled) (keys : List ℕ) (log : List Typed) (limit : ℕ) (free : Bool) (old new : MachineState) (cause : Cause)
    → IsStarted free program keys old → IsTypedStop (code_of old) (world_of_state old) log limit new cause
    → IsTypedStop (bytes (guard_of_run free program)) (start_of_run program keys) log limit new cause
stop_of program keys log limit free old new cause started stop =
    subst (λ (w : World). IsTypedStop (bytes (guard_of_run free program)) w log limit new cause) started.world
    (subst (λ (g : Option Guard). IsTypedStop (bytes g) (world_of_state old) log limit new cause) started.guard stop)

pub typed_ended : (program : Assembled) (keys : List ℕ) (log : List Typed) (limit : ℕ) (free : Bool) (old new : MachineState) (cause : Cause)
    → IsSound program → IsStarted free program keys old → IsTypedStop (code_of old) (world_of_state old) log limit new cause
    → IsTypedRun program keys log limit free new cause
typed_ended program keys log limit free old new cause sound started stop =
    typed_ended_of program keys log limit free new cause sound (stop_of program keys log limit free old new cause started stop)

-- an observer that saw the run of the bytes has seen the program's run
pub seen_of : {O : Type 0} (seen : O → Shown → O) (program : Assembled) (keys : List ℕ) (log : List Typed) (limit : ℕ) (free : Bool)
    (old new : MachineState) (cause : Cause) (first last : O) → IsSound program → IsStarted free program keys old
    → IsTypedStop (code_of old) (world_of_state old) log limit new cause
    → last ≡ observer_after seen (shown_in (world_with_keys (code_of old) (world_of_state old) log)) first new.steps
    → last ≡ observer_after seen (shown_in (world_with_keys (code_of_run free program) (start_of_run program keys) log)) first new.steps
seen_of {O} seen program keys log limit free old new cause first last sound started stop is =
    let code : Code = bytes (guard_of_run free program) in
    let start : World = start_of_run program keys in
    let going = (stop_of program keys log limit free old new cause started stop).end.first in
    let worlds : ℕ → World = world_with_keys code start log in
    let means : ℕ → World = world_with_keys (code_of_run free program) start log in
    is
    ∙ ap₂ (λ (g : Option Guard) (w : World). observer_after seen (shown_in (world_with_keys (bytes g) w log)) first new.steps) started.guard started.world
    ∙ alike seen (shown_in worlds) (shown_in means) first new.steps (λ j l. ap₂ (λ (a b : World). shown_between a b)
    (world_meant free program keys log j sound (λ k h. going k (omega (arith, h, l))))
    (world_meant free program keys log (suc j) sound (λ k h. going k (omega (arith, h, l)))))

-- copies from the run of a machine from the program's start are copies from the program's run
pub copies_of : (program : Assembled) (keys : List ℕ) (log : List Typed) (free : Bool) (old : MachineState) (older newer : Option Device)
    → IsStarted free program keys old → AreCopies (code_of old) (world_of_state old) log older newer
    → AreCopies (bytes (guard_of_run free program)) (start_of_run program keys) log older newer
copies_of program keys log free old older newer started copies =
    subst (λ (w : World). AreCopies (bytes (guard_of_run free program)) w log older newer) started.world
    (subst (λ (g : Option Guard). AreCopies (bytes g) (world_of_state old) log older newer) started.guard copies)

-- a machine at the start, with the first keys typed, is in the middle of the program's run
pub running_of : (program : Assembled) (keys : List ℕ) (log : List Typed) (limit : ℕ) (free : Bool) (old new : Device)
    → IsStarted free program keys old.state → new ≡ with_keys (keys_at log 0) old → length new.state.bus.devices.keys ≤ 4096
    → IsRunning (bytes (guard_of_run free program)) (start_of_run program keys) log limit new.state.steps new
running_of program keys log limit free old new started is room =
    let at = running_start old new log limit started.steps is room in
    subst (λ (w : World). IsRunning (bytes (guard_of_run free program)) w log limit new.state.steps new) started.world
    (subst (λ (g : Option Guard). IsRunning (bytes g) (world_of_state old.state) log limit new.state.steps new) started.guard
    (subst (λ (n : ℕ). IsRunning (code_of old.state) (world_of_state old.state) log limit n new) (sym at.steps) at))

pub typed_overfull : (program : Assembled) (keys : List ℕ) (log : List Typed) (limit : ℕ) (free : Bool) (old : MachineState) (steps : ℕ)
    → IsSound program → IsStarted free program keys old → IsOverfull (code_of old) (world_of_state old) log limit steps
    → IsOverfull (code_of_run free program) (start_of_run program keys) log limit steps
typed_overfull program keys log limit free old steps sound started full =
    overfull_meant free program keys log limit steps sound
    (subst (λ (w : World). IsOverfull (bytes (guard_of_run free program)) w log limit steps) started.world
    (subst (λ (g : Option Guard). IsOverfull (bytes g) (world_of_state old) log limit steps) started.guard full))

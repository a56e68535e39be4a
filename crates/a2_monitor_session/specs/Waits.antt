-- The run of a program that was called and waits for a key again and again. This project's profile.
use Rattle.std.specs.Prelude.{◌≡◌, ℕ, ◌-◌, min, List, [], ◌∷◌, map, None}
use Rattle.a2_services.specs.World.{World}
use Rattle.a2_machine.specs.declared.causes.Cause.{Cause}
use Rattle.a2_machine.specs.declared.causes.Cause.TheVariants.{Keys}
use Rattle.a2_machine.specs.ByteRun.{bytes}
use Rattle.a2_machine.specs.State.{most_steps}
use Rattle.a2_timed_keys.specs.declared.strokes.Typed.{Typed}
use Rattle.a2_timed_keys.specs.Typed.{IsTypedEnd}
use Rattle.a2_monitor.specs.SessionStates.{SessionState, IsFreeRun, with_keys}

-- a free run of at most this many steps, which waits for each of these keys and continues when it is typed
abbrev pub RunsWithWaits : List ℕ → World → ℕ → SessionState → SessionState → Cause → Type 0
RunsWithWaits [] start limit old new cause = IsFreeRun start limit old new cause
RunsWithWaits (key ∷ keys) start limit old new cause =
    (wait : SessionState) × IsFreeRun start limit old wait Keys
    × RunsWithWaits keys (with_keys (key ∷ []) wait).world (limit - (wait.steps - old.steps)) (with_keys (key ∷ []) wait) new cause

-- it is the one run in which each of these keys is typed after some number of its steps
abbrev pub WaitingIsTyping : Type 0
WaitingIsTyping =
    (keys : List ℕ) (start : World) (limit : ℕ) (old new : SessionState) (cause : Cause) → RunsWithWaits keys start limit old new cause
    → (log : List Typed) × (map (λ (t : Typed). t.key) log ≡ keys)
    × IsTypedEnd (bytes None) start log (min limit (most_steps - old.steps)) (record { world = new.world; steps = new.steps - old.steps; cause = cause })

-- A program that the Monitor calls at a terminal, and the keys it waits for. This project's profile.
use Rattle.std.specs.Prelude.{◌≡◌, ◌⊎◌, ◌↔◌, ℕ, ◌+◌, ◌-◌, ◌<◌, ◌≤◌, Bool, true, false, not, List, [], ◌∷◌, ◌++◌, length, codes, Option, Some, None, if◌then◌else◌}
use Rattle.a2_services.specs.World.{World}
use Rattle.a2_machine.specs.declared.causes.Cause.{Cause}
use Rattle.a2_machine.specs.declared.causes.Cause.TheVariants.{Keys}
use Rattle.a2_machine.specs.Start.{called_at}
use Rattle.a2_monitor.specs.SessionStates.{SessionState, KeptSession, state_of_session, with_keys, end_lines, steps_of_call, IsFreeRun}
use Rattle.a2_monitor_session.specs.declared.press.Press.{Press}
use Rattle.a2_monitor_session.specs.declared.press.Press.TheVariants.{Key, Stop, Nothing}
use Rattle.a2_monitor_session.specs.Screens.{IsSameScreen, screen_of, screen_where}

-- a session, whether keys can be typed, and, if a program that was called is waiting for one, the number of steps it may still
-- execute
pub record Attended : Type 0 where
  pub session : KeptSession
  pub is_live : Bool
  pub wait : Option ℕ

-- a program waits if it needs a key and keys can be typed
abbrev pub waits_by : Bool → Cause → Bool
waits_by is_live Keys = is_live
waits_by is_live _ = false

-- the report of a run's end, or the notice that its program is waiting
abbrev pub ending : Bool → List ℕ → SessionState → Cause → List ℕ
ending waits notice session_state cause = if waits then notice else end_lines session_state.world session_state.steps cause

-- the start of a run: its first world, and the session before it
pub record Begin : Type 0 where
  pub world : World
  pub session_state : SessionState

-- a free run of at most this many steps; before the report of its end, the screen is shown if it changed; a waiting program may
-- execute the steps that are left
pub record IsRunReported (begin : Begin) (limit : ℕ) (notice : List ℕ) (is_live : Bool) (text : List ℕ) (new : Attended) : Type 0 where
  pub cause : Cause
  pub run : IsFreeRun begin.world limit begin.session_state (state_of_session new.session) cause
  pub is_same : Bool
  pub same : (is_same ≡ true) ↔ IsSameScreen (screen_of begin.session_state.world) (screen_of (state_of_session new.session).world)
  pub lines : text ≡ screen_where (not is_same) (state_of_session new.session).world ++ ending (waits_by is_live cause) notice (state_of_session new.session) cause
  pub wait : new.wait ≡ (if waits_by is_live cause then Some (limit - ((state_of_session new.session).steps - begin.session_state.steps)) else None)
  pub live : new.is_live ≡ is_live

-- a program is called
abbrev pub IsCallReported : ℕ → Attended → List ℕ → Attended → Type 0
IsCallReported at old text new =
    let session_state = state_of_session old.session in
    let begin : Begin = record { world = called_at at session_state.world; session_state = session_state } in
    IsRunReported begin steps_of_call (codes "WAITING FOR A KEY; CTRL-] STOPS THE RUN\n") old.is_live text new

-- it is waiting, and a key is typed
abbrev pub IsKeyReported : ℕ → ℕ → Attended → List ℕ → Attended → Type 0
IsKeyReported limit key old text new =
    let session_state = with_keys (key ∷ []) (state_of_session old.session) in
    let begin : Begin = record { world = session_state.world; session_state = session_state } in
    IsRunReported begin limit [] old.is_live text new

-- it is waiting, and this is pressed; there is no space for a key after 4,096 keys
abbrev pub IsPressReported : ℕ → Press → Attended → List ℕ → Attended → Type 0
IsPressReported limit (Key key) old text new =
    ((length (state_of_session old.session).world.memory.devices.keys + 1 ≤ 4096) × IsKeyReported limit key old text new)
    ⊎ ((4096 < length (state_of_session old.session).world.memory.devices.keys + 1) × (text ≡ codes "NOT TYPED: 4096 KEYS ARE WAITING\n") × (new ≡ old))
IsPressReported limit Stop old text new =
    (text ≡ end_lines (state_of_session old.session).world (state_of_session old.session).steps Keys) × (new ≡ record old { wait = None })
IsPressReported limit Nothing old text new = (text ≡ []) × (new ≡ old)

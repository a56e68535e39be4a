-- Runs in which keys are typed after given steps. This project's profile.
use Rattle.std.specs.Prelude.{◌≡◌, ◌≢◌, ◌⊎◌, ℕ, zero, suc, ◌<◌, ◌≤◌, ◌==◌, Bool, List, [], ◌∷◌, length, map, Option, Some, None, IfSome, if◌then◌else◌}
use Rattle.a2_asm.specs.Assembled.{Assembled}
use Rattle.a2_bus.specs.Devices.{keys_typed}
use Rattle.a2_bus.specs.Memory.{Memory}
use Rattle.a2_services.specs.World.{World}
use Rattle.a2_machine.specs.declared.causes.Cause.{Cause}
use Rattle.a2_machine.specs.declared.causes.Cause.TheVariants.{Limit}
use Rattle.a2_machine.specs.Meaning.{Code, End, IsEnd, stuck, next}
use Rattle.a2_machine.specs.State.{Device, MachineState, code_of, world_of_state}
use Rattle.a2_run.specs.Meaning.{code_of_run, start_of_run}
use Rattle.a2_timed_keys.specs.declared.run.TypedFault.{TypedFault}
use Rattle.a2_timed_keys.specs.declared.run.TypedFault.TheVariants.{Full, Memory as NoMemory}
use Rattle.a2_timed_keys.specs.declared.strokes.Typed.{Typed}

-- the world after these keys are typed
abbrev pub keys_typed_in : List ℕ → Memory → Memory
keys_typed_in keys memory = record memory { devices = keys_typed memory.devices keys }

unfoldable pub typed : List ℕ → World → World
typed keys world = record world { memory = keys_typed_in keys world.memory }

-- these keys, typed after so many steps
abbrev pub typed_after : ℕ → List ℕ → List Typed
typed_after steps keys = map (λ key. record { steps = steps; key = key }) keys

-- the keys that are typed after so many steps
abbrev pub keys_at : List Typed → ℕ → List ℕ
keys_at [] n = []
keys_at (t ∷ ts) n = if t.steps == n then t.key ∷ keys_at ts n else keys_at ts n

-- the world after so many steps, before the keys that are typed there, and with them
unfoldable pub world_before_keys : Code → World → List Typed → ℕ → World
world_before_keys code start log zero = start
world_before_keys code start log (suc n) = next code (typed (keys_at log n) (world_before_keys code start log n))

unfoldable pub world_with_keys : Code → World → List Typed → ℕ → World
world_with_keys code start log n = typed (keys_at log n) (world_before_keys code start log n)

-- a machine at which these keys are typed
abbrev pub with_keys : List ℕ → Device → Device
with_keys keys device =
    let s = device.state in let b = s.bus in record device { state = record s { bus = record b { devices = keys_typed b.devices keys } } }

-- with a limit, a run in which these keys are typed ends in the first world that is stuck with the keys that are typed there, or
-- else after as many steps as the limit allows
pub record IsTypedEnd (code : Code) (start : World) (log : List Typed) (limit : ℕ) (end : End) : Type 0 where
  pub within : end.steps ≤ limit
  pub reached : end.world ≡ world_with_keys code start log end.steps
  pub first : (k : ℕ) → k < end.steps → stuck code (world_with_keys code start log k) ≡ None
  pub cause : (stuck code end.world ≡ Some end.cause)
      ⊎ ((stuck code end.world ≡ None) × (end.steps ≡ limit) × (end.cause ≡ Limit))

-- wherever keys are typed in the first steps of a run, they fit: at most 4,096 wait
abbrev pub KeysFit : Code → World → List Typed → ℕ → Type 0
KeysFit code start log n =
    (k : ℕ) → k ≤ n → keys_at log k ≢ [] → length (world_with_keys code start log k).memory.devices.keys ≤ 4096

-- a machine is where such a run ends
pub record IsTypedStop (code : Code) (start : World) (log : List Typed) (limit : ℕ) (state : MachineState) (cause : Cause) : Type 0 where
  pub end : IsTypedEnd code start log limit (record { world = world_of_state state; steps = state.steps; cause = cause })
  pub fit : KeysFit code start log state.steps

-- a machine is in the middle of such a run, after so many steps, with the keys that are typed there
pub record IsRunning (code : Code) (start : World) (log : List Typed) (limit made : ℕ) (machine : Device) : Type 0 where
  pub within : made ≤ limit
  pub steps : machine.state.steps ≡ made
  pub code_is : code_of machine.state ≡ code
  pub reached : world_of_state machine.state ≡ world_with_keys code start log made
  pub first : (k : ℕ) → k < made → stuck code (world_with_keys code start log k) ≡ None
  pub fit : KeysFit code start log made

-- a copy of a machine that was in the middle of such a run
abbrev pub IsCopy : Code → World → List Typed → Device → Type 0
IsCopy code start log machine = IsRunning code start log machine.state.steps machine.state.steps machine

-- the same for two machines, if they are there
abbrev pub AreCopies : Code → World → List Typed → Option Device → Option Device → Type 0
AreCopies code start log older newer = IfSome older (IsCopy code start log) × IfSome newer (IsCopy code start log)

-- after so many steps of such a run, more than 4,096 keys would wait
pub record IsOverfull (code : Code) (start : World) (log : List Typed) (limit steps : ℕ) : Type 0 where
  pub within : steps ≤ limit
  pub first : (k : ℕ) → k < steps → stuck code (world_with_keys code start log k) ≡ None
  pub full : 4096 < length (world_with_keys code start log steps).memory.devices.keys

-- the run of a program, with these keys waiting at its start and with those that are typed, ends in this world by this cause
pub record IsTypedRun (program : Assembled) (keys : List ℕ) (log : List Typed) (limit : ℕ) (free : Bool) (state : MachineState) (cause : Cause) : Type 0 where
  pub end : End
  pub is_end : IsTypedEnd (code_of_run free program) (start_of_run program keys) log limit end
  pub world_is : world_of_state state ≡ end.world
  pub steps_are : state.steps ≡ end.steps
  pub cause_is : cause ≡ end.cause

-- the run has no end, because after so many steps more than 4,096 keys would wait; or there was not enough memory
abbrev pub IsTypedFault : Assembled → List ℕ → List Typed → ℕ → Bool → TypedFault → Type 0
IsTypedFault program keys log limit free (Full steps) = IsOverfull (code_of_run free program) (start_of_run program keys) log limit steps
IsTypedFault program keys log limit free NoMemory = Unit {0}

-- a run in which no key is typed is a run
abbrev pub NoKeysAreARun : Type 0
NoKeysAreARun = (code : Code) (start : World) (limit : ℕ) (end : End) → IsTypedEnd code start [] limit end → IsEnd code start limit end

-- A machine that is played. Its world is given by the program's meaning, with the keys typed at their steps.
use Rattle.std.specs.Prelude.{◌≡◌, ◌⊎◌, ℕ, ◌<◌, ◌≤◌, Bool, true, false, List, [], ◌∷◌, ◌++◌, All, length, Option, Some, None, if◌then◌else◌}
use Rattle.a2_hex.specs.Images.{held}
use Rattle.a2_asm.specs.Assembled.{Assembled}
use Rattle.a2_services.specs.World.{World}
use Rattle.a2_machine.specs.declared.causes.Cause.{Cause}
use Rattle.a2_machine.specs.declared.causes.Cause.TheVariants.{Limit}
use Rattle.a2_machine.specs.Meaning.{Code, stuck}
use Rattle.a2_machine.specs.ByteRun.{bytes}
use Rattle.a2_machine.specs.ProgramGuard.{guard_of_program}
use Rattle.a2_machine.specs.Start.{start_world}
use Rattle.a2_machine.specs.State.{Device, MachineState, world_of_state, code_of, most_steps}
use Rattle.a2_timed_keys.specs.declared.strokes.Typed.{Typed}
use Rattle.a2_timed_keys.specs.Typed.{keys_at, with_keys, world_with_keys as run_with_keys}

-- a machine and the keys that were typed
pub record Play : Type 0 where
  pub machine : Device
  pub log : List Typed

-- a program's code, whose bytes are protected, and the world at its start, with no key waiting
unfoldable pub code_of_play : Assembled → Code
code_of_play program = bytes (Some (guard_of_program program))

unfoldable pub start : Assembled → World
start program = start_world (held program.image) program.entry []

-- the world after this many steps, including the keys that were typed there
abbrev pub world_with_keys : Assembled → List Typed → ℕ → World
world_with_keys program log n = run_with_keys (code_of_play program) (start program) log n

-- no key was typed after more steps
abbrev pub NoneAbove : ℕ → List Typed → Type 0
NoneAbove n [] = Unit {0}
NoneAbove n (t ∷ ts) = (t.steps ≤ n) × NoneAbove n ts

-- after this many steps no key was typed, or those that waited then had room
abbrev pub Fits : Assembled → List Typed → ℕ → Type 0
Fits program log n = (keys_at log n ≡ []) ⊎ (length (world_with_keys program log n).memory.devices.keys ≤ 4096)

-- A program is played: the machine is where the program's meaning leads with the keys of the log, and no earlier
-- world is stuck.
pub record IsPlayed (program : Assembled) (play : Play) : Type 0 where
  pub holds : world_of_state play.machine.state ≡ world_with_keys program play.log play.machine.state.steps
  pub went : (k : ℕ) → k < play.machine.state.steps → stuck (code_of_play program) (world_with_keys program play.log k) ≡ None
  pub guarded : play.machine.state.guard ≡ Some (guard_of_program program)
  pub past : NoneAbove play.machine.state.steps play.log
  pub few : play.machine.state.steps ≤ most_steps
  pub codes : All (λ t. t.key < 128) play.log
  pub fits : (k : ℕ) → Fits program play.log k

-- a program and a play of it
pub record PlayedProgram : Type 0 where
  pub program : Assembled
  pub play : Play

-- a machine after a key was typed, or, if there was no room, without it
abbrev pub with_key : ℕ → Device → Device
with_key key device = with_keys (key ∷ []) device

abbrev pub machine_after : Bool → ℕ → Device → Device
machine_after is_typed key device = if is_typed then with_key key device else device

-- the same, with the log
abbrev pub after_key : Bool → ℕ → Play → Play
after_key false key play = play
after_key true key play = record {
  machine = with_key key play.machine;
  log = play.log ++ record { steps = play.machine.state.steps; key = key } ∷ [];
}

-- the machine is stuck by the reported cause, unless that is a limit
abbrev pub IsStuckBy : MachineState → Option Cause → Type 0
IsStuckBy state None = Unit {0}
IsStuckBy state (Some cause) = (cause ≡ Limit) ⊎ (stuck (code_of state) (world_of_state state) ≡ Some cause)

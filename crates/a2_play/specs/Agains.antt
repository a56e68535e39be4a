-- A run that is replayed. No public clause cites this file.
use Rattle.std.specs.Prelude.{◌≡◌, ◌⊎◌, ℕ, ◌+◌, ◌<◌, ◌≤◌, List, [], All, length, Some, None}
use Rattle.a2_asm.specs.Assembled.{Assembled}
use Rattle.a2_services.specs.World.{World}
use Rattle.a2_machine.specs.Meaning.{stuck}
use Rattle.a2_machine.specs.ProgramGuard.{guard_of_program}
use Rattle.a2_machine.specs.State.{Device, MachineState, world_of_state, most_steps}
use Rattle.a2_timed_keys.specs.declared.strokes.Typed.{Typed}
use Rattle.a2_timed_keys.specs.Typed.{world_before_keys}
use Rattle.a2_play.specs.Played.{code_of_play, start, world_with_keys, Fits}

-- these keys have room in a machine, or there are none
abbrev pub HasRoom : List ℕ → Device → Type 0
HasRoom keys device = (keys ≡ []) ⊎ (length device.state.bus.devices.keys + length keys ≤ 4096)

-- the world after this many steps, before the keys that were typed there
abbrev pub world_before : Assembled → List Typed → ℕ → World
world_before program log n = world_before_keys (code_of_play program) (start program) log n

-- a machine is in the replay of a run that reached a last position, before the keys of the current position are typed
pub record IsReplaying (program : Assembled) (log : List Typed) (last : ℕ) (state : MachineState) : Type 0 where
  pub codes : All (λ t. t.key < 128) log
  pub fits : (k : ℕ) → Fits program log k
  pub went : (k : ℕ) → k < last → stuck (code_of_play program) (world_with_keys program log k) ≡ None
  pub few : last ≤ most_steps
  pub holds : world_of_state state ≡ world_before program log state.steps
  pub guarded : state.guard ≡ Some (guard_of_program program)
  pub within : state.steps ≤ last

-- after each smaller number of steps, fewer than `goal` cycles had passed
abbrev pub HasFewerCycles : Assembled → List Typed → ℕ → ℕ → Type 0
HasFewerCycles program log goal n = (k : ℕ) → k < n → (world_with_keys program log k).cycles < goal

-- `goal` cycles have passed, within the piece that began at a position before which they had not
pub record IsFoundBySearch (program : Assembled) (log : List Typed) (goal end piece before : ℕ) (state : MachineState) : Type 0 where
  pub again : IsReplaying program log end state
  pub ahead : before ≤ state.steps
  pub near : state.steps ≤ before + piece
  pub reached : goal ≤ state.cycles
  pub slower : (k : ℕ) → k ≤ before → k < state.steps → (world_with_keys program log k).cycles < goal

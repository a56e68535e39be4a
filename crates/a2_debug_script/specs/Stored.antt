-- What contracts see of a debugger, and the session that it represents.
use Rattle.std.specs.Prelude.{◌≡◌, ℕ, zero, suc, ◌+◌, ◌-◌, ◌*◌, ◌/◌, ◌<◌, ◌≤◌, ◌^◌, ◌==◌, nat_le, List, [], ◌∷◌, length, slice_index_or, map, All, Some, None, unwrap_or}
use Rattle.std.specs.List.{filter}
use Rattle.a2_hex.specs.Images.{held}
use Rattle.a2_asm.specs.Assembled.{Assembled}
use Rattle.a2_asm.specs.Programs.{IsSound}
use Rattle.a2_services.specs.World.{World}
use Rattle.a2_machine.specs.Meaning.{stuck, next}
use Rattle.a2_debug_script.specs.Worlds.{guarded_code, start, typed}
use Rattle.a2_machine.specs.Guarded.{HoldsCode}
use Rattle.a2_machine.specs.ProgramGuard.{guard_of_program}
use Rattle.a2_machine.specs.State.{MachineState, world_of_state}
use Rattle.a2_debug_script.specs.declared.Typed.{Typed}
use Rattle.a2_debug_script.specs.Session.{Session}

pub record Stored : Type 0 where
  pub program : Assembled
  -- the keys that were typed, each with the count at which it was typed
  pub log : List Typed
  pub count : ℕ
  pub breaks : List ℕ
  pub oldest : ℕ
  -- the number of steps that the last call of back replayed
  pub reruns : ℕ
  -- the number of steps that the debugger's machines have ever executed
  pub made : ℕ

-- the keys that were typed at a count
abbrev pub keys_at : List Typed → ℕ → List ℕ
keys_at log count = map (λ t. t.key) (filter (λ t. t.count == count) log)

-- the world at a count, before the keys that were typed there
unfoldable pub world_before_keys : Assembled → List Typed → ℕ → World
world_before_keys program log zero = start program
world_before_keys program log (suc n) = next (guarded_code program) (typed (keys_at log n) (world_before_keys program log n))

-- the world at a count, after the keys that were typed there
unfoldable pub world_with_keys : Assembled → List Typed → ℕ → World
world_with_keys program log n = typed (keys_at log n) (world_before_keys program log n)

-- the worlds at the counts below, the latest first
unfoldable pub worlds_below : Assembled → List Typed → ℕ → List World
worlds_below program log zero = []
worlds_below program log (suc n) = world_with_keys program log n ∷ worlds_below program log n

-- the session that a debugger represents
unfoldable pub session_of : Stored → Session
session_of s = record {
  last = world_with_keys s.program s.log s.count;
  earlier = worlds_below s.program s.log s.count;
  breaks = s.breaks;
  oldest = s.oldest;
}

-- a debugger at the start of a program, whose machines have executed this many steps before
abbrev pub debugger_at_start : Assembled → ℕ → Stored
debugger_at_start program made = record { program = program; log = []; count = 0; breaks = []; oldest = 0; reruns = 0; made = made }

-- these keys, typed at this count
abbrev pub typed_at : ℕ → List ℕ → List Typed
typed_at count keys = map (λ key. record { count = count; key = key }) keys

-- the keys that were typed at counts up to this one
abbrev pub up_to : ℕ → List Typed → List Typed
up_to count log = filter (λ t. nat_le t.count count) log

-- no key was typed at a count above this one, or below this one
abbrev pub NoneAbove : ℕ → List Typed → Type 0
NoneAbove count log = All (λ t. t.count ≤ count) log

abbrev pub NoneBelow : ℕ → List Typed → Type 0
NoneBelow count log = All (λ t. count ≤ t.count) log

-- the keys are in the order of their counts
abbrev pub InOrder : List Typed → Type 0
InOrder [] = Unit {0}
InOrder (t ∷ ts) = NoneBelow t.count ts × InOrder ts

-- the byte that a program puts at an address
abbrev pub byte_of_program : Assembled → ℕ → ℕ
byte_of_program program a = unwrap_or (held program.image a) 0

-- a machine with this program's guard, which has executed this many steps, holds this world
pub record IsAt (program : Assembled) (world : World) (count : ℕ) (state : MachineState) : Type 0 where
  pub holds : world_of_state state ≡ world
  pub steps : state.steps ≡ count
  pub guarded : state.guard ≡ Some (guard_of_program program)
  -- the processor finds the program's statements wherever memory holds its code, and memory does hold it
  pub sound : IsSound program
  pub code : HoldsCode (guard_of_program program).code (byte_of_program program) world.memory

-- none of the worlds at the counts below is stuck
abbrev pub NoneStuck : Assembled → List Typed → ℕ → Type 0
NoneStuck program log count = (k : ℕ) → k < count → stuck (guarded_code program) (world_with_keys program log k) ≡ None

-- these keys were typed on the way to a count
pub record AreLogged (program : Assembled) (log : List Typed) (count : ℕ) : Type 0 where
  pub past : NoneAbove count log
  pub order : InOrder log
  pub went : NoneStuck program log count
  pub keys : length log ≤ 4096
  -- each key has seven bits
  pub codes : All (λ t. t.key < 128) log

-- the invariant of a debugger
pub record IsKept (program : Assembled) (log : List Typed) (count : ℕ) (state : MachineState) : Type 0 where
  pub current : IsAt program (world_with_keys program log count) count state
  pub logged : AreLogged program log count
  pub few : count ≤ 100_000_000

-- a call that steps changes only the session's worlds and the number of steps ever executed
pub record Moves (old : Stored) (limit : ℕ) (new : Stored) : Type 0 where
  pub program : new.program ≡ old.program
  pub log : new.log ≡ old.log
  pub breaks : new.breaks ≡ old.breaks
  pub reruns : new.reruns ≡ old.reruns
  pub further : old.count ≤ new.count
  pub within : new.count ≤ old.count + limit
  pub made : old.made + limit < 2 ^ 64 → new.made ≡ old.made + (new.count - old.count)

-- all keys were typed at counts below this one
abbrev pub AllBelow : ℕ → List Typed → Type 0
AllBelow count log = All (λ t. t.count < count) log

-- a state with the guard of a program
abbrev pub under_guard : Assembled → MachineState → MachineState
under_guard program state = record state { guard = Some (guard_of_program program) }

-- with the guard, a state is the one at a count, before the keys typed there
abbrev pub IsCopyAt : Assembled → List Typed → ℕ → MachineState → Type 0
IsCopyAt program log count state = IsAt program (world_before_keys program log count) count (under_guard program state)

-- the first state is a copy of the state at this count, and each further one is 1,024 steps later
abbrev pub Spaced : Assembled → List Typed → ℕ → List MachineState → Type 0
Spaced program log count held =
    (k : ℕ) (d : MachineState) → k < length held → IsCopyAt program log (count + 1024 * k) (slice_index_or held k d)

-- the checkpoints that a debugger holds
pub record AreCheckpoints (program : Assembled) (log : List Typed) (count oldest : ℕ) (held : List MachineState) : Type 0 where
  pub spaced : Spaced program log oldest held
  pub some : 0 < length held
  pub eight : length held ≤ 8
  pub places : oldest + 1024 * length held ≡ 1024 * (count / 1024) + 1024

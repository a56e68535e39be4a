-- Which steps need a check for a stop when a run is executed in bursts. No public clause cites this file.
use Rattle.std.specs.Prelude.{◌≡◌, ◌⊎◌, ℕ, Bool, true, false, ◌||◌, ◌&&◌, List, [], Some, None, is_some, nat_le, get_or, slice_get, Contains}
use Rattle.std.specs.List.{list_any, list_all}
use Rattle.a2_opcode.specs.declared.Instr.{Instr}
use Rattle.a2_opcode.specs.declared.Row.{Row}
use Rattle.a2_opcode.specs.Table.{row}
use Rattle.a2_opcode.specs.Encoding.{fetched, instruction}
use Rattle.a2_bus.specs.Memory.{Memory, peek, memory_access}
use Rattle.a2_effect.specs.Place.{Place, place_of}
use Rattle.a2_effect.specs.Effect.{effect_of}
use Rattle.a2_cpu.specs.Code.{place_addresses, effect_stores}
use Rattle.a2_burst.specs.Shown.{Shown}
use Rattle.a2_services.specs.World.{World}
use Rattle.a2_services.specs.Services.{service_at}
use Rattle.a2_asm.specs.declared.program.Statement.{Statement}
use Rattle.a2_asm.specs.Programs.{Holds}
use Rattle.a2_history.specs.Going.{Track, here, AlarmsAreComplete}
use Rattle.a2_debugger.specs.Stops.{Moment, moment_of, is_hit, is_watch_changed, is_stop}
use Rattle.a2_debugger.specs.declared.stops.Break.{Break}
use Rattle.a2_debugger.specs.declared.stops.Moment.{Moment as DeclaredMoment}
use Rattle.a2_debugger.specs.declared.stops.Watch.{Watch}
use Rattle.a2_debugger.specs.declared.stops.Watch.TheVariants.{OfBytes}

-- for each address, whether it has a breakpoint, and whether a step there may change something watched
pub record Alerts : Type 0 where
  pub stops : List Bool
  pub stores : List Bool

-- whether an address is marked
abbrev pub is_marked : List Bool → ℕ → Bool
is_marked marks address = get_or marks address true

-- whether bytes are watched, and an address is among them
abbrev pub is_in : Watch → ℕ → Bool
is_in (OfBytes span) address = nat_le span.first address && nat_le address span.last
is_in watch address = false

-- whether the byte at an address is watched
abbrev pub is_watched : List Watch → ℕ → Bool
is_watched watches address = list_any (λ watch. is_in watch address) watches

abbrev pub is_of_bytes : Watch → Bool
is_of_bytes (OfBytes span) = true
is_of_bytes watch = false

-- the place of an instruction's operand
abbrev pub place_in : World → Instr → Place
place_in world i = place_of memory_access world.memory world.registers i.mode i.value

-- in any world, an instruction's operand is at no watched address
abbrev pub OperandNeverWatched : List Watch → Instr → Type 0
OperandNeverWatched watches i = (world : World) → list_any (is_watched watches) (place_addresses (place_in world i)) ≡ false

-- in any world, it stores and pushes at no watched address
abbrev pub NeverChangesWatched : List Watch → Instr → Type 0
NeverChangesWatched watches i = (world : World)
    → list_any (is_watched watches) (effect_stores (effect_of i.mnemonic) (place_in world i) world.registers.s) ≡ false

-- this instruction is fetched at a statement's address from any memory that holds the statement's bytes as this memory does
abbrev pub IsFetchedAt : Memory → Statement → Instr → Type 0
IsFetchedAt memory statement i = (other : Memory) → ((a : ℕ) → Holds statement a → peek other a ≡ peek memory a)
    → (found : Row) × (row i.mnemonic i.mode ≡ Some found) × (fetched (peek other) statement.addr ≡ instruction found i.value)

-- such an instruction that changes no watched byte
pub record IsHarmless (watches : List Watch) (memory : Memory) (statement : Statement) : Type 0 where
  pub instr : Instr
  pub stands : IsFetchedAt memory statement instr
  pub spares : NeverChangesWatched watches instr

-- the statement is such an instruction, and not a service
pub record IsCalmStatement (watches : List Watch) (memory : Memory) (statement : Statement) : Type 0 where
  pub some : is_some statement.instr ≡ true
  pub none : service_at statement.addr ≡ None
  pub harmless : IsHarmless watches memory statement

-- one of these statements begins at the address and is calm
abbrev pub IsCalm : List Watch → List Statement → Memory → ℕ → Type 0
IsCalm watches statements memory address =
    (s : Statement) × Contains statements s × (s.addr ≡ address) × IsCalmStatement watches memory s

-- all addresses except calm ones are marked
abbrev pub MarksAllBut : List Watch → List Statement → Memory → List Bool → Type 0
MarksAllBut watches statements memory marks =
    (address : ℕ) → is_marked marks address ≡ false → IsCalm watches statements memory address

-- the addresses of breakpoints are marked and, if something is watched, all addresses; if only bytes are and code cannot change, all
-- except calm ones
pub record AreAlerts (may_change_code : Bool) (statements : List Statement) (memory : Memory) (breaks : List Break) (watches : List Watch) (alerts : Alerts) : Type 0 where
  pub breaks_marked : (moment : Moment) → list_any (is_hit moment) breaks ≡ true → is_marked alerts.stops moment.pc ≡ true
  pub watched : (address : ℕ) → is_marked alerts.stores address ≡ false
      → (watches ≡ []) ⊎ ((may_change_code ≡ false) × (list_all is_of_bytes watches ≡ true) × IsCalm watches statements memory address)

-- the state that decides a stop, with RAM as a function of the address
abbrev pub moment_of_declared : DeclaredMoment → Moment
moment_of_declared m = record { pc = m.pc; a = m.a; x = m.x; y = m.y; s = m.s; p = m.p; ram = slice_get m.ram.now }

-- the same state after a step
abbrev pub moment_after : Shown → Moment
moment_after shown = record {
  pc = shown.look.next_pc;
  a = shown.look.next_a;
  x = shown.look.next_x;
  y = shown.look.next_y;
  s = shown.look.next_s;
  p = shown.look.next_p;
  ram = shown.ram;
}

-- a step that reaches a breakpoint whose condition holds, or one that may change something watched and after which it differs from
-- the given world
abbrev pub alarms : Alerts → List Break → List Watch → World → Shown → Bool
alarms alerts breaks watches now shown =
    (is_marked alerts.stops shown.look.next_pc && list_any (is_hit (moment_after shown)) breaks)
    || (is_marked alerts.stores shown.look.pc && list_any (is_watch_changed (moment_of now) (moment_after shown)) watches)

-- every step from a position on that reaches a stop is one of these
abbrev pub WarnsOfStops : Alerts → List Break → List Watch → Track → Type 0
WarnsOfStops alerts breaks watches track =
    AlarmsAreComplete (is_stop breaks watches (here track)) (alarms alerts breaks watches (here track)) track.course track.position

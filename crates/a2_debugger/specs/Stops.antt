-- Stops of a run: breakpoints with their conditions, and what is watched: registers, flags and bytes. This project's profile.
use Rattle.std.specs.Prelude.{ℕ, zero, suc, ◌+◌, ◌-◌, ◌==◌, Bool, true, false, ◌||◌, ◌&&◌, not, nat_lt, List, Option, Some, None, if◌then◌else◌}
use Rattle.std.specs.List.{list_any}
use Rattle.a2_bus.specs.Memory.{peek}
use Rattle.a2_effect.specs.Registers.{byte_of_flags, flags_of_byte, one_if}
use Rattle.a2_services.specs.World.{World}
use Rattle.a2_debugger.specs.declared.stops.Register.{Register}
use Rattle.a2_debugger.specs.declared.stops.Register.TheVariants.{A, X, Y, S, P}
use Rattle.a2_debugger.specs.declared.stops.Flag.{Flag}
use Rattle.a2_debugger.specs.declared.stops.Flag.TheVariants.{N, V, D, I, Z, C}
use Rattle.a2_debugger.specs.declared.stops.Subject.{Subject}
use Rattle.a2_debugger.specs.declared.stops.Subject.TheVariants.{InRegister, InFlag, InByte}
use Rattle.a2_debugger.specs.declared.stops.Watch.{Watch}
use Rattle.a2_debugger.specs.declared.stops.Watch.TheVariants.{OfRegister, OfFlag, OfBytes}
use Rattle.a2_debugger.specs.declared.stops.Relation.{Relation}
use Rattle.a2_debugger.specs.declared.stops.Relation.TheVariants.{Equal, Other, Less, More}
use Rattle.a2_debugger.specs.declared.stops.Condition.{Condition}
use Rattle.a2_debugger.specs.declared.stops.Break.{Break}
use Rattle.a2_symbols.specs.declared.places.Span.{Span}

-- the state that decides a stop: the registers as bytes, with P as the byte that PHP pushes, and the byte of RAM at each
-- address
pub record Moment : Type 0 where
  pub pc : ℕ
  pub a : ℕ
  pub x : ℕ
  pub y : ℕ
  pub s : ℕ
  pub p : ℕ
  pub ram : ℕ → Option ℕ

abbrev pub moment_of : World → Moment
moment_of world = record {
  pc = world.registers.pc;
  a = world.registers.a;
  x = world.registers.x;
  y = world.registers.y;
  s = world.registers.s;
  p = byte_of_flags world.registers.flags;
  ram = peek world.memory;
}

abbrev pub in_register : Register → Moment → ℕ
in_register A moment = moment.a
in_register X moment = moment.x
in_register Y moment = moment.y
in_register S moment = moment.s
in_register P moment = moment.p

-- the value of a flag, 0 or 1
abbrev pub in_flag : Flag → Moment → ℕ
in_flag N moment = one_if (flags_of_byte moment.p).n
in_flag V moment = one_if (flags_of_byte moment.p).v
in_flag D moment = one_if (flags_of_byte moment.p).d
in_flag I moment = one_if (flags_of_byte moment.p).i
in_flag Z moment = one_if (flags_of_byte moment.p).z
in_flag C moment = one_if (flags_of_byte moment.p).c

abbrev pub value_of : Subject → Moment → Option ℕ
value_of (InRegister register) moment = Some (in_register register moment)
value_of (InFlag flag) moment = Some (in_flag flag moment)
value_of (InByte address) moment = moment.ram address

abbrev pub compares : Relation → ℕ → ℕ → Bool
compares Equal value than = value == than
compares Other value than = not (value == than)
compares Less value than = nat_lt value than
compares More value than = nat_lt than value

-- a condition holds; it never holds for a byte that does not exist
abbrev pub compares_some : Relation → Option ℕ → ℕ → Bool
compares_some relation None than = false
compares_some relation (Some value) than = compares relation value than

abbrev pub holds : Option Condition → Moment → Bool
holds None moment = true
holds (Some c) moment = compares_some c.relation (value_of c.subject moment) c.value

-- PC is at a breakpoint whose condition holds
abbrev pub is_hit : Moment → Break → Bool
is_hit moment b = (b.address == moment.pc) && holds b.condition moment

-- both bytes exist and differ
abbrev pub bytes_differ : Option ℕ → Option ℕ → Bool
bytes_differ (Some one) (Some other) = not (one == other)
bytes_differ one other = false

-- the byte at an address has changed
abbrev pub is_changed : ℕ → (ℕ → Option ℕ) → (ℕ → Option ℕ) → Bool
is_changed address before now = bytes_differ (now address) (before address)

-- one of this many bytes from an address on has changed
unfoldable pub is_changed_from : ℕ → ℕ → (ℕ → Option ℕ) → (ℕ → Option ℕ) → Bool
is_changed_from first zero before now = false
is_changed_from first (suc n) before now = is_changed_from first n before now || is_changed (first + n) before now

-- one of the bytes from the first to the last has changed
abbrev pub is_span_changed : (ℕ → Option ℕ) → (ℕ → Option ℕ) → Span → Bool
is_span_changed before now span = is_changed_from span.first (span.last + 1 - span.first) before now

-- what is watched has another value now than before
abbrev pub is_watch_changed : Moment → Moment → Watch → Bool
is_watch_changed before now (OfRegister register) = not (in_register register now == in_register register before)
is_watch_changed before now (OfFlag flag) = not (in_flag flag now == in_flag flag before)
is_watch_changed before now (OfBytes span) = is_span_changed before.ram now.ram span

-- it differs in this world
abbrev pub is_changed_in : World → World → Watch → Bool
is_changed_in now world watch = is_watch_changed (moment_of now) (moment_of world) watch

-- a world at a breakpoint, or in which something watched has changed
abbrev pub is_stop : List Break → List Watch → World → World → Bool
is_stop breaks watches now world = list_any (is_hit (moment_of world)) breaks || list_any (is_changed_in now world) watches

-- the bytes that can be watched: at most 256
abbrev pub watchable : Span → Option Watch
watchable span = if nat_lt span.last (span.first + 256) then Some (OfBytes span) else None

abbrev pub is_same_register : Register → Register → Bool
is_same_register A A = true
is_same_register X X = true
is_same_register Y Y = true
is_same_register S S = true
is_same_register P P = true
is_same_register one other = false

abbrev pub is_same_flag : Flag → Flag → Bool
is_same_flag N N = true
is_same_flag V V = true
is_same_flag D D = true
is_same_flag I I = true
is_same_flag Z Z = true
is_same_flag C C = true
is_same_flag one other = false

-- both watch the same
abbrev pub is_same_watch : Watch → Watch → Bool
is_same_watch (OfRegister one) (OfRegister other) = is_same_register one other
is_same_watch (OfFlag one) (OfFlag other) = is_same_flag one other
is_same_watch (OfBytes one) (OfBytes other) = (other.first == one.first) && (other.last == one.last)
is_same_watch one other = false

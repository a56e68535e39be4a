-- Which steps of a trace are shown. This project's profile.
use Rattle.std.specs.Prelude.{ℕ, zero, suc, ◌+◌, ◌-◌, nat_le, Bool, true, false, not, ◌&&◌, ◌||◌, ◌==◌, Option, Some, None}
use Rattle.std.specs.List.{list_any}
use Rattle.a2_opcode.specs.Encoding.{fetched}
use Rattle.a2_bus.specs.Memory.{Memory, peek, memory_access}
use Rattle.a2_cpu.specs.StepStores.{stores_at}
use Rattle.a2_symbols.specs.declared.places.Span.{Span}
use Rattle.a2_services.specs.Services.{service_at}
use Rattle.a2_services.specs.World.{World}
use Rattle.a2_trace.specs.declared.choice.Choice.{Choice}
use Rattle.a2_trace.specs.Bytes.{byte_at}

abbrev pub is_in : Span → ℕ → Bool
is_in span a = nat_le span.first a && nat_le a span.last

abbrev pub is_other_at : Memory → Memory → ℕ → Bool
is_other_at old new a = not (byte_at old a == byte_at new a)

-- whether two memories have different bytes at one of so many addresses from one on
unfoldable pub differ_from : Memory → Memory → ℕ → ℕ → Bool
differ_from old new a zero = false
differ_from old new a (suc n) = is_other_at old new a || differ_from old new (a + 1) n

-- The step between two worlds stores in a span. For an instruction this is each store and push, even of the byte that was there. A
-- service writes into RAM without a log: for its step these are the bytes that differ afterwards.
unfoldable pub stores_in : Span → World → World → Bool
stores_in span before after =
    elim (service_at before.registers.pc) [
      | Some service ↦ differ_from before.memory after.memory span.first (span.last + 1 - span.first)
      | None ↦ list_any (is_in span) (stores_at memory_access (fetched (peek before.memory) before.registers.pc) before)
    ]

-- a test of what is asked for, and no test if nothing is
abbrev pub where_asked : (Span → Bool) → Option Span → Bool
where_asked test None = true
where_asked test (Some span) = test span

-- the step with this number, from 1 on, is not before the first, and has PC in the span that is asked for
abbrev pub is_near : Choice → ℕ → World → Bool
is_near choice number before = nat_le choice.from number && where_asked (λ span. is_in span before.registers.pc) choice.only

abbrev pub stores_where : Option Span → World → World → Bool
stores_where stores before after = where_asked (λ span. stores_in span before after) stores

-- the step with this number between two worlds is chosen
abbrev pub is_chosen : Choice → ℕ → World → World → Bool
is_chosen choice number before after = is_near choice number before && stores_where choice.stores before after

-- the choice of all steps
abbrev pub all_steps : Choice
all_steps = record { from = 0; last = None; only = None; stores = None }

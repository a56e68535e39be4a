-- What the calls for a step say about its stores.
use Rattle.std.specs.Prelude.{◌||◌}
use Rattle.std.proofs.Common.{◌≡◌, ℕ, zero, suc, ◌+◌, ◌-◌, ◌<◌, Bool, true, false, length, slice_get, Option, Some, None, is_some, refl, sym, ap, ap₂, ◌∙◌, true≢false, arith}
use Rattle.std.specs.List.{list_any}
use Rattle.a2_opcode.specs.Encoding.{Fetched, no_byte, undocumented, instruction, fetched}
use Rattle.a2_bus.specs.BusState.{BusState, board_access}
use Rattle.a2_bus.specs.Memory.{Memory, ram_end, peek, memory_access}
use Rattle.a2_bus.specs.View.{memory_of}
use Rattle.a2_cpu.specs.BusStep.{refusal_of}
use Rattle.a2_effect.specs.Registers.{Registers}
use Rattle.a2_cpu.specs.StepStores.{none_if, stores_at}
use Rattle.a2_effect.specs.Instruction.{state_of}
use Rattle.a2_symbols.specs.declared.places.Span.{Span}
use Rattle.a2_services.specs.declared.rows.Service.{Service}
use Rattle.a2_services.specs.Services.{service_at}
use Rattle.a2_services.specs.World.{World, world_of}
use Rattle.a2_machine.proofs.Outcomes.{stores-world, fetched-world}
use Rattle.a2_trace.specs.Choices.{is_in, is_other_at, differ_from, stores_in}

-- an instruction stores at the same addresses on a board as in the world
fetched-stores : (found : Fetched) (registers : Registers) (bus : BusState) (cycles : ℕ) → length bus.bytes ≡ ram_end
    → stores_at board_access found (state_of registers bus) ≡ stores_at memory_access found (world_of registers bus cycles)
unfolding stores_at
fetched-stores no_byte registers bus cycles size = refl
fetched-stores undocumented registers bus cycles size = refl
fetched-stores (instruction row value) registers bus cycles size =
    ap (none_if (refusal_of row.mnemonic registers.flags)) (stores-world row value registers bus cycles size)

pub stores-there : (registers : Registers) (bus : BusState) (cycles : ℕ) → length bus.bytes ≡ ram_end
    → stores_at board_access (fetched (slice_get bus.bytes) registers.pc) (state_of registers bus)
    ≡ stores_at memory_access (fetched (peek (memory_of bus)) registers.pc) (world_of registers bus cycles)
stores-there registers bus cycles size =
    fetched-stores (fetched (slice_get bus.bytes) registers.pc) registers bus cycles size
    ∙ ap (λ found. stores_at memory_access found (world_of registers bus cycles)) (sym (fetched-world bus registers.pc size))

module _ (span : Span) (before after : World) where
  abbrev by_call : Bool
  by_call = differ_from before.memory after.memory span.first (span.last + 1 - span.first)

  abbrev by_instruction : Bool
  by_instruction = list_any (is_in span) (stores_at memory_access (fetched (peek before.memory) before.registers.pc) before)

  abbrev by_found : Option Service → Bool
  by_found found = elim found [ Some service ↦ by_call | None ↦ by_instruction ]

  pub stores-by_call : is_some (service_at before.registers.pc) ≡ true → stores_in span before after ≡ by_call
  unfolding stores_in
  stores-by_call some = go (service_at before.registers.pc) some
    where
      go : (found : Option Service) → is_some found ≡ true → by_found found ≡ by_call
      go None is = absurd (true≢false (sym is))
      go (Some service) is = refl

  -- memories that are those of the worlds
  pub stores-called : (old new : Memory) → old ≡ before.memory → new ≡ after.memory → is_some (service_at before.registers.pc) ≡ true
      → differ_from old new span.first (span.last + 1 - span.first) ≡ stores_in span before after
  stores-called old new e f some =
      ap₂ (λ (m n : Memory). differ_from m n span.first (span.last + 1 - span.first)) e f ∙ sym (stores-by_call some)

  pub stores-by_instruction : is_some (service_at before.registers.pc) ≡ false → stores_in span before after ≡ by_instruction
  unfolding stores_in
  stores-by_instruction none = go (service_at before.registers.pc) none
    where
      go : (found : Option Service) → is_some found ≡ false → by_found found ≡ by_instruction
      go None is = refl
      go (Some service) is = absurd (true≢false is)

-- comparing memories from an address on
pub differ_next : (old new : Memory) (a left : ℕ) → 0 < left
    → differ_from old new a left ≡ (is_other_at old new a || differ_from old new (a + 1) (left - 1))
unfolding differ_from
differ_next old new a zero some = absurd (omega (arith, some))
differ_next old new a (suc left) some =
    let one : suc left - 1 ≡ left = omega arith in
    ap (λ (n : ℕ). is_other_at old new a || differ_from old new (a + 1) n) (sym one)

pub differ_none : (old new : Memory) (a left : ℕ) → left ≡ 0 → differ_from old new a left ≡ false
unfolding differ_from
differ_none old new a left none = ap (differ_from old new a) none

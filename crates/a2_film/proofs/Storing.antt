-- What an opcode says about stores.
use Rattle.std.proofs.Common.{◌≡◌, ℕ, ◌-◌, List, [], Option, Some, None, refl, sym, ap, ◌∙◌, length, ◌+◌}
use Rattle.a2_opcode.specs.declared.Row.{Row}
use Rattle.a2_opcode.specs.Table.{row_of, length_of}
use Rattle.a2_opcode.specs.Encoding.{Fetched, no_byte, undocumented, instruction, bytes_from, value_of, fetched}
use Rattle.a2_bus.specs.BusState.{BusState, board_access}
use Rattle.a2_bus.specs.Memory.{peek, ram_end}
use Rattle.a2_bus.specs.View.{memory_of}
use Rattle.a2_cpu.specs.BusStep.{Refusal, refusal_of}
use Rattle.a2_cpu.specs.Code.{effect_stores}
use Rattle.a2_effect.specs.Effect.{effect_of}
use Rattle.a2_effect.specs.Instruction.{State}
use Rattle.a2_effect.specs.Place.{Place}
use Rattle.a2_cpu.specs.StepStores.{none_if, stores_at, step_stores}
use Rattle.a2_cpu.specs.View.{before_step}
use Rattle.a2_effect.specs.declared.Regs.{Regs}
use Rattle.a2_cpu.proofs.EffectStores.{stores_of-is}
use Rattle.a2_machine.proofs.Outcomes.{fetched-world}

none_if-nothing : (why : Option Refusal) → none_if why [] ≡ []
none_if-nothing (Some why) = refl
none_if-nothing None = refl

module _ (show : ℕ → Option ℕ) (pc : ℕ) (state : State BusState) where
  abbrev by_operand : Row → Option (List ℕ) → Fetched
  by_operand row found =
      elim found as (λ _. Fetched) [ None ↦ no_byte | Some operand ↦ instruction row (value_of row.mode pc operand) ]

  abbrev by_row : Option Row → Fetched
  by_row found =
      elim found as (λ _. Fetched) [
        | None ↦ undocumented
        | Some row ↦ by_operand row (bytes_from show (pc + 1) (length_of row.mode - 1))
      ]

  abbrev by_opcode : Option ℕ → Fetched
  by_opcode found = elim found as (λ _. Fetched) [ None ↦ no_byte | Some opcode ↦ by_row (row_of opcode) ]

  none_by_operand : (row : Row) (operand : Option (List ℕ))
      → ((place : Place) (s : ℕ) → effect_stores (effect_of row.mnemonic) place s ≡ [])
      → stores_at board_access (by_operand row operand) state ≡ []
  unfolding stores_at
  none_by_operand row None never = refl
  none_by_operand row (Some operand) never =
      ap (none_if (refusal_of row.mnemonic state.registers.flags))
      (stores_of-is board_access row (value_of row.mode pc operand) state ∙ never _ _)
      ∙ none_if-nothing (refusal_of row.mnemonic state.registers.flags)

  pub stores-no_byte : show pc ≡ None → stores_at board_access (fetched show pc) state ≡ []
  unfolding fetched stores_at
  stores-no_byte none = ap (λ (o : Option ℕ). stores_at board_access (by_opcode o) state) none

  pub stores-no_row : (opcode : ℕ) → show pc ≡ Some opcode → row_of opcode ≡ None
      → stores_at board_access (fetched show pc) state ≡ []
  unfolding fetched stores_at
  stores-no_row opcode there none =
      ap (λ (o : Option ℕ). stores_at board_access (by_opcode o) state) there
      ∙ ap (λ (r : Option Row). stores_at board_access (by_row r) state) none

  pub stores-never : (opcode : ℕ) (row : Row) → show pc ≡ Some opcode → row_of opcode ≡ Some row
      → ((place : Place) (s : ℕ) → effect_stores (effect_of row.mnemonic) place s ≡ [])
      → stores_at board_access (fetched show pc) state ≡ []
  unfolding fetched
  stores-never opcode row there is never =
      ap (λ (o : Option ℕ). stores_at board_access (by_opcode o) state) there
      ∙ ap (λ (r : Option Row). stores_at board_access (by_row r) state) is
      ∙ none_by_operand row (bytes_from show (pc + 1) (length_of row.mode - 1)) never

module _ (regs : Regs) (bus : BusState) (size : length bus.bytes ≡ ram_end) (pc : ℕ) (pc_is : pc ≡ regs.pc) where
  shown : step_stores board_access (before_step regs bus)
      ≡ stores_at board_access (fetched (peek (memory_of bus)) pc) (before_step regs bus)
  shown =
      ap (λ (found : Fetched). stores_at board_access found (before_step regs bus)) (sym (fetched-world bus regs.pc size))
      ∙ ap (λ (at : ℕ). stores_at board_access (fetched (peek (memory_of bus)) at) (before_step regs bus)) (sym pc_is)

  pub no_byte-stores : None ≡ peek (memory_of bus) pc → step_stores board_access (before_step regs bus) ≡ []
  no_byte-stores none = shown ∙ stores-no_byte (peek (memory_of bus)) pc (before_step regs bus) (sym none)

  pub no_row-stores : (opcode : ℕ) → Some opcode ≡ peek (memory_of bus) pc → row_of opcode ≡ None
      → step_stores board_access (before_step regs bus) ≡ []
  no_row-stores opcode there none =
      shown ∙ stores-no_row (peek (memory_of bus)) pc (before_step regs bus) opcode (sym there) none

  pub row-stores : (opcode : ℕ) (row : Row) → Some opcode ≡ peek (memory_of bus) pc → row_of opcode ≡ Some row
      → ((place : Place) (s : ℕ) → effect_stores (effect_of row.mnemonic) place s ≡ [])
      → step_stores board_access (before_step regs bus) ≡ []
  row-stores opcode row there is never =
      shown ∙ stores-never (peek (memory_of bus)) pc (before_step regs bus) opcode row (sym there) is never

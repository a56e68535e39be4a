-- Instructions that access a byte at an address whose value is not known: one step each.
use Rattle.std.specs.Prelude.{◌≡◌, ◌<◌, ℕ, ◌+◌, ◌%◌, ◌&&◌, ◌||◌, Bool, false, nat_lt, [], ◌∷◌, Some, None, if◌then◌else◌}
use Rattle.std.specs.List.{list_any}
use Rattle.std.proofs.Common.{ap, ◌∙◌}
use Rattle.std.proofs.lemmas.Bool.{lt-ltb}
use Rattle.a2_text.specs.Bytes.{is_among}
use Rattle.a2_opcode.specs.declared.Row.{Row}
use Rattle.a2_opcode.specs.Table.{length_of}
use Rattle.a2_bus.specs.Devices.{device_byte, after_access}
use Rattle.a2_bus.specs.Memory.{Memory, ram_byte, with_ram, ram_end, memory_access}
use Rattle.a2_cpu.specs.BusStep.{refusal_of}
use Rattle.a2_effect.specs.Effect.{Effect, Replacement, takes, replaces, stores, effect_of}
use Rattle.a2_effect.specs.Instruction.{performed}
use Rattle.a2_effect.specs.Place.{base_address, is_other_page}
use Rattle.a2_effect.specs.Registers.{Registers, StatusFlags, one_if}
use Rattle.a2_cpu.specs.Stores.{stores_of}
use Rattle.a2_services.specs.World.{World}
use Rattle.a2_machine.specs.Meaning.{Code}
use Rattle.a2_machine.proofs.Walks.{walked}
use Rattle.a2_theorems.proofs.Stepping.{IsAtPc, step}
use Rattle.a2_theorems.proofs.Indexing.{reads_at, stores_at}

-- the effect of an instruction on the byte that it reads, the byte that it stores, and the byte with which it replaces
-- another
abbrev pub taken_by : Effect → ℕ → Registers → Registers
taken_by (takes change) = change
taken_by _ = λ byte registers. registers

abbrev pub byte_of : Effect → Registers → ℕ
byte_of (stores byte) = byte
byte_of _ = λ registers. 0

abbrev pub replaced_by : Effect → ℕ → StatusFlags → Replacement
replaced_by (replaces change) = change
replaced_by _ = λ byte flags. record { byte = byte; flags = flags }

-- the registers after an instruction, apart from its effect
abbrev pub onward : Row → World → Registers
onward row w = record w.registers { pc = (w.registers.pc + length_of row.mode) % 65536 }

-- the cycles after it, if it reads at this address
abbrev pub spent : Row → (value at : ℕ) → World → ℕ
spent row value at w = w.cycles + (row.cycles + one_if (row.crosses && is_other_page (base_address memory_access w.memory row.mode value) at) + 0)

-- the world after an instruction that reads at an address, after one that stores there, and after one that does both
abbrev pub taking : Row → (value at : ℕ) → World → World
taking row value at w = record {
  registers = taken_by (effect_of row.mnemonic) (ram_byte w.memory at) (onward row w);
  memory = w.memory;
  cycles = spent row value at w;
}

abbrev pub putting : Row → (value at : ℕ) → World → World
putting row value at w = record {
  registers = onward row w;
  memory = with_ram w.memory at (byte_of (effect_of row.mnemonic) (onward row w));
  cycles = spent row value at w;
}

abbrev pub replacement : Row → (byte : ℕ) → World → Replacement
replacement row byte w = replaced_by (effect_of row.mnemonic) byte w.registers.flags

abbrev pub changing : Row → (value at : ℕ) → World → World
changing row value at w = record {
  registers = record (onward row w) { flags = (replacement row (ram_byte w.memory at) w).flags };
  memory = with_ram w.memory at (replacement row (ram_byte w.memory at) w).byte;
  cycles = spent row value at w;
}

module _ (code : Code) (w : World) (row : Row) (value e at : ℕ) (stands : IsAtPc code w (record { row = row; value = value }))
    (allowed : refusal_of row.mnemonic w.registers.flags ≡ None) where
  pub take : stores_of memory_access row value w ≡ []
      → performed memory_access row value w ≡ record {
        registers = taken_by (effect_of row.mnemonic) (memory_access.byte_at w.memory e) (onward row w);
        memory = memory_access.after_read w.memory e;
        cycles = spent row value e w;
      }
      → e ≡ at → at < ram_end → walked code w 1 ≡ Some (taking row value at w)
  take stored computed is low =
      reads_at code w (record { row = row; value = value }) (λ byte. taken_by (effect_of row.mnemonic) byte (onward row w)) (λ a. spent row value a w)
      e at stands allowed stored computed is low

  pub put : stores_of memory_access row value w ≡ e ∷ []
      → performed memory_access row value w ≡ record {
        registers = onward row w;
        memory = memory_access.after_write w.memory e (byte_of (effect_of row.mnemonic) (onward row w));
        cycles = spent row value e w;
      }
      → e ≡ at → at < ram_end → is_among code.protected at ≡ false → walked code w 1 ≡ Some (putting row value at w)
  put stored computed is low free =
      stores_at code w (record { row = row; value = value }) (onward row w) (spent row value e w) (byte_of (effect_of row.mnemonic) (onward row w))
      e at stands allowed stored computed is low free
      ∙ ap (λ a. Some (record {
        registers = onward row w;
        memory = with_ram w.memory at (byte_of (effect_of row.mnemonic) (onward row w));
        cycles = spent row value a w;
      })) is

  pub change : stores_of memory_access row value w ≡ e ∷ []
      → performed memory_access row value w ≡ record {
        registers = record (onward row w) { flags = (replacement row (memory_access.byte_at w.memory e) w).flags };
        memory = memory_access.after_write (memory_access.after_read w.memory e) e (replacement row (memory_access.byte_at w.memory e) w).byte;
        cycles = spent row value e w;
      }
      → e ≡ at → at < ram_end → is_among code.protected at ≡ false → walked code w 1 ≡ Some (changing row value at w)
  unfolding memory_access
  change stored computed is low free =
      step code w (record { row = row; value = value }) stands allowed
      (ap (list_any (is_among code.protected)) stored ∙ ap (λ a. is_among code.protected a || false) is ∙ ap (λ b. b || false) free)
      ∙ ap Some (computed ∙ ap (λ a. reached a (nat_lt a ram_end)) is ∙ ap (reached at) (lt-ltb at ram_end low))
    where
      byte : ℕ → Bool → ℕ
      byte a in_ram = if in_ram then ram_byte w.memory a else device_byte w.memory.devices a

      read : ℕ → Bool → Memory
      read a in_ram = if in_ram then w.memory else record w.memory { devices = after_access w.memory.devices a }

      reached : ℕ → Bool → World
      reached a in_ram = record {
        registers = record (onward row w) { flags = (replacement row (byte a in_ram) w).flags };
        memory = if in_ram then with_ram (read a in_ram) a (replacement row (byte a in_ram) w).byte
            else record (read a in_ram) { devices = after_access (read a in_ram).devices a };
        cycles = spent row value a w;
      }

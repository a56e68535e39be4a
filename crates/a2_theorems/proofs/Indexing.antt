-- Loads and stores through an index, at addresses whose values are not known: one step each. Also their total cost if
-- the index leads into another page.
use Rattle.std.specs.Prelude.{◌≡◌, ◌<◌, ◌≤◌, ◌⊎◌, ℕ, ◌+◌, ◌-◌, ◌/◌, ◌%◌, ◌==◌, [], ◌∷◌, Bool, true, false, not, ◌||◌, nat_lt, Some, None, if◌then◌else◌, refl}
use Rattle.std.specs.List.{list_any}
use Rattle.std.proofs.Common.{sym, ap, ◌∙◌, arith, inl, inr, true≢false}
use Rattle.std.proofs.lemmas.Bool.{cases_lt, lt-ltb}
use Rattle.std.proofs.lemmas.Bool.Decides.{nat_tests}
use Rattle.a2_text.specs.Bytes.{is_among}
use Rattle.a2_opcode.specs.declared.Mnemonic.TheVariants.{Lda, Sta}
use Rattle.a2_opcode.specs.declared.Mode.TheVariants.{AbsoluteX, AbsoluteY, IndirectIndexed}
use Rattle.a2_opcode.specs.Table.{fixed, page_crossing_row}
use Rattle.a2_bus.specs.Devices.{device_byte, after_access}
use Rattle.a2_bus.specs.Memory.{ram_byte, with_ram, ram_end, memory_access}
use Rattle.a2_cpu.specs.BusStep.{refusal_of}
use Rattle.a2_effect.specs.Effect.{effect_of, to_a}
use Rattle.a2_effect.specs.Instruction.{performed, after_effect}
use Rattle.a2_effect.specs.Place.{zero_page_word, is_other_page}
use Rattle.a2_effect.specs.Registers.{Registers, one_if}
use Rattle.a2_cpu.specs.Stores.{stores_of}
use Rattle.a2_services.specs.World.{World}
use Rattle.a2_machine.specs.Meaning.{Code, Decoded}
use Rattle.a2_machine.proofs.Walks.{walked}
use Rattle.a2_theorems.proofs.Stepping.{IsAtPc, step}

-- An instruction that stores a byte at one address, given how the address is computed
pub stores_at : (code : Code) (w : World) (decoded : Decoded) (registers : Registers) (cycles byte e at : ℕ) → IsAtPc code w decoded
    → refusal_of decoded.row.mnemonic w.registers.flags ≡ None → stores_of memory_access decoded.row decoded.value w ≡ e ∷ []
    → performed memory_access decoded.row decoded.value w
    ≡ record { registers = registers; memory = memory_access.after_write w.memory e byte; cycles = cycles }
    → e ≡ at → at < ram_end → is_among code.protected at ≡ false
    → walked code w 1 ≡ Some (record { registers = registers; memory = with_ram w.memory at byte; cycles = cycles })
unfolding memory_access
stores_at code w decoded registers cycles byte e at stands allowed stored computed is low free =
    step code w decoded stands allowed
    (ap (list_any (is_among code.protected)) stored ∙ ap (λ a. is_among code.protected a || false) is ∙ ap (λ b. b || false) free)
    ∙ ap Some (computed ∙ ap (λ a. written a (nat_lt a ram_end)) is ∙ ap (written at) (lt-ltb at ram_end low))
  where
    written : ℕ → Bool → World
    written a in_ram = record {
      registers = registers;
      memory = if in_ram then with_ram w.memory a byte else record w.memory { devices = after_access w.memory.devices a };
      cycles = cycles;
    }

-- an instruction that reads a byte at one address, and stores nothing
pub reads_at : (code : Code) (w : World) (decoded : Decoded) (registers : ℕ → Registers) (cycles : ℕ → ℕ) (e at : ℕ) → IsAtPc code w decoded
    → refusal_of decoded.row.mnemonic w.registers.flags ≡ None → stores_of memory_access decoded.row decoded.value w ≡ []
    → performed memory_access decoded.row decoded.value w
    ≡ record { registers = registers (memory_access.byte_at w.memory e); memory = memory_access.after_read w.memory e; cycles = cycles e }
    → e ≡ at → at < ram_end
    → walked code w 1 ≡ Some (record { registers = registers (ram_byte w.memory at); memory = w.memory; cycles = cycles at })
unfolding memory_access
reads_at code w decoded registers cycles e at stands allowed stored computed is low =
    step code w decoded stands allowed (ap (list_any (is_among code.protected)) stored)
    ∙ ap Some (computed ∙ ap (λ a. reached a (nat_lt a ram_end)) is ∙ ap (reached at) (lt-ltb at ram_end low))
  where
    reached : ℕ → Bool → World
    reached a in_ram = record {
      registers = registers (if in_ram then ram_byte w.memory a else device_byte w.memory.devices a);
      memory = if in_ram then w.memory else record w.memory { devices = after_access w.memory.devices a };
      cycles = cycles a;
    }

-- the registers after an instruction of this many bytes
abbrev pub following : ℕ → World → Registers
following length w = record w.registers { pc = (w.registers.pc + length) % 65536 }

-- the world after an indexed STA
abbrev pub stored_at : (length cycles at : ℕ) → World → World
stored_at length cycles at w =
    record { registers = following length w; memory = with_ram w.memory at w.registers.a; cycles = w.cycles + cycles }

-- the world after an indexed LDA, which takes one more cycle if the address is in another page than this base
abbrev pub loaded_at : (length cycles base at : ℕ) → World → World
loaded_at length cycles base at w = record {
  registers = to_a (ram_byte w.memory at) (following length w);
  memory = w.memory;
  cycles = w.cycles + (cycles + one_if (is_other_page base at) + 0);
}

-- STA (zp),Y
pub store : (code : Code) (w : World) (pointer at : ℕ) → IsAtPc code w (record { row = fixed Sta IndirectIndexed 0x91 6; value = pointer })
    → (zero_page_word memory_access w.memory pointer + w.registers.y) % 65536 ≡ at → at < ram_end → is_among code.protected at ≡ false
    → walked code w 1 ≡ Some (stored_at 2 6 at w)
unfolding performed after_effect effect_of refusal_of stores_of
store code w pointer at stands is low free = stores_at code w _ _ _ _ _ at stands refl refl refl is low free

-- STA ABS,X and STA ABS,Y
pub store_x : (code : Code) (w : World) (base at : ℕ) → IsAtPc code w (record { row = fixed Sta AbsoluteX 0x9D 5; value = base })
    → (base + w.registers.x) % 65536 ≡ at → at < ram_end → is_among code.protected at ≡ false → walked code w 1 ≡ Some (stored_at 3 5 at w)
unfolding performed after_effect effect_of refusal_of stores_of
store_x code w base at stands is low free = stores_at code w _ _ _ _ _ at stands refl refl refl is low free

pub store_y : (code : Code) (w : World) (base at : ℕ) → IsAtPc code w (record { row = fixed Sta AbsoluteY 0x99 5; value = base })
    → (base + w.registers.y) % 65536 ≡ at → at < ram_end → is_among code.protected at ≡ false → walked code w 1 ≡ Some (stored_at 3 5 at w)
unfolding performed after_effect effect_of refusal_of stores_of
store_y code w base at stands is low free = stores_at code w _ _ _ _ _ at stands refl refl refl is low free

-- LDA (zp),Y
pub load : (code : Code) (w : World) (pointer at : ℕ) → IsAtPc code w (record { row = page_crossing_row Lda IndirectIndexed 0xB1 5; value = pointer })
    → (zero_page_word memory_access w.memory pointer + w.registers.y) % 65536 ≡ at → at < ram_end
    → walked code w 1 ≡ Some (loaded_at 2 5 (zero_page_word memory_access w.memory pointer) at w)
unfolding performed after_effect effect_of refusal_of stores_of
load code w pointer at stands is low =
    reads_at code w _ (λ byte. to_a byte (following 2 w))
    (λ a. w.cycles + (5 + one_if (is_other_page (zero_page_word memory_access w.memory pointer) a) + 0)) _ at stands refl refl refl is low

-- LDA ABS,X and LDA ABS,Y
pub load_x : (code : Code) (w : World) (base at : ℕ) → IsAtPc code w (record { row = page_crossing_row Lda AbsoluteX 0xBD 4; value = base })
    → (base + w.registers.x) % 65536 ≡ at → at < ram_end → walked code w 1 ≡ Some (loaded_at 3 4 base at w)
unfolding performed after_effect effect_of refusal_of stores_of
load_x code w base at stands is low =
    reads_at code w _ (λ byte. to_a byte (following 3 w)) (λ a. w.cycles + (4 + one_if (is_other_page base a) + 0)) _ at
    stands refl refl refl is low

pub load_y : (code : Code) (w : World) (base at : ℕ) → IsAtPc code w (record { row = page_crossing_row Lda AbsoluteY 0xB9 4; value = base })
    → (base + w.registers.y) % 65536 ≡ at → at < ram_end → walked code w 1 ≡ Some (loaded_at 3 4 base at w)
unfolding performed after_effect effect_of refusal_of stores_of
load_y code w base at stands is low =
    reads_at code w _ (λ byte. to_a byte (following 3 w)) (λ a. w.cycles + (4 + one_if (is_other_page base a) + 0)) _ at
    stands refl refl refl is low

-- how many of the first n bytes that start at an address are in another page than that address
abbrev pub crossed : (at n : ℕ) → ℕ
crossed at n = at % 256 + n - 256

-- one more byte costs one more cycle if it is in another page
pub crosses : (at i : ℕ) → i < 256 → one_if (is_other_page at (at + i)) + crossed at i ≡ crossed at (i + 1)
crosses at i small = by (at / 256 == (at + i) / 256) refl (cases_lt (at % 256 + i) 256)
  where
    by : (same : Bool) → (at / 256 == (at + i) / 256) ≡ same → (at % 256 + i < 256) ⊎ (256 ≤ at % 256 + i)
        → one_if (not same) + crossed at i ≡ crossed at (i + 1)
    by true is (inl low) = omega (arith, low)
    by true is (inr high) =
        let e : at / 256 ≡ (at + i) / 256 = grind (arith, nat_tests, is) in
        omega (arith, e, high, small)
    by false is (inl low) =
        let e : at / 256 ≡ (at + i) / 256 = omega (arith, low) in
        let never : (at / 256 == (at + i) / 256) ≡ true = grind (arith, nat_tests, e) in
        absurd (true≢false (sym never ∙ is))
    by false is (inr high) = omega (arith, high)

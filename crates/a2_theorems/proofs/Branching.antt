-- Branches that test a flag about which a fact is known, but not its value.
use Rattle.std.specs.Prelude.{◌≡◌, ℕ, ◌+◌, ◌%◌, Bool, true, false, not, if◌then◌else◌, Some, refl}
use Rattle.std.proofs.Common.{sym, ap, subst}
use Rattle.a2_opcode.specs.declared.Mnemonic.{Mnemonic}
use Rattle.a2_opcode.specs.declared.Mnemonic.TheVariants.{Bcc, Bcs, Beq, Bmi, Bne, Bpl, Bvc, Bvs}
use Rattle.a2_opcode.specs.Table.{branch_row}
use Rattle.a2_cpu.specs.BusStep.{refusal_of}
use Rattle.a2_effect.specs.Effect.{effect_of}
use Rattle.a2_effect.specs.Instruction.{performed, after_effect}
use Rattle.a2_effect.specs.Place.{is_other_page}
use Rattle.a2_effect.specs.Registers.{one_if}
use Rattle.a2_cpu.specs.Stores.{stores_of}
use Rattle.a2_services.specs.World.{World}
use Rattle.a2_machine.specs.Meaning.{Code}
use Rattle.a2_machine.proofs.Walks.{walked, Leads}
use Rattle.a2_theorems.proofs.Places.{along}
use Rattle.a2_theorems.proofs.Stepping.{IsAtPc, step}

-- the flags that branches test
pub data Flag : Type 0 where
  N : Flag
  V : Flag
  Z : Flag
  C : Flag

abbrev pub flag_of : Flag → World → Bool
flag_of N w = w.registers.flags.n
flag_of V w = w.registers.flags.v
flag_of Z w = w.registers.flags.z
flag_of C w = w.registers.flags.c

-- the world with another value of a flag
abbrev pub with_flag : Flag → Bool → World → World
with_flag N b w = record w { registers = record w.registers { flags = record w.registers.flags { n = b } } }
with_flag V b w = record w { registers = record w.registers { flags = record w.registers.flags { v = b } } }
with_flag Z b w = record w { registers = record w.registers { flags = record w.registers.flags { z = b } } }
with_flag C b w = record w { registers = record w.registers { flags = record w.registers.flags { c = b } } }

-- with the value that the flag has, the world is the same
same_flag : (flag : Flag) (b : Bool) (w : World) → flag_of flag w ≡ b → with_flag flag b w ≡ w
same_flag N b w is = λ i. with_flag N (sym is i) w
same_flag V b w is = λ i. with_flag V (sym is i) w
same_flag Z b w is = λ i. with_flag Z (sym is i) w
same_flag C b w is = λ i. with_flag C (sym is i) w

-- A part that ends in a world in which a flag is known, and what follows with that flag
pub onward : (code : Code) (flag : Flag) (b : Bool) (w v : World) (m n : ℕ) (Q : World → Type 0) → walked code w m ≡ Some v
    → flag_of flag v ≡ b → Leads code (with_flag flag b v) n Q → Leads code w (m + n) Q
onward code flag b w v m n Q walk is leads = along code w v m n Q walk (subst (λ u. Leads code u n Q) (same_flag flag b v is) leads)

-- A part up to a branch that tests a flag, and what follows if it is set and if it is clear. Each path has its own
-- steps, which are added to those of the part.
pub branching : (code : Code) (flag : Flag) (w v : World) (m steps : ℕ) (Q : World → Type 0) → walked code w m ≡ Some v
    → (flag_of flag v ≡ true → (n : ℕ) × (m + n ≡ steps) × Leads code (with_flag flag true v) n Q)
    → (flag_of flag v ≡ false → (n : ℕ) × (m + n ≡ steps) × Leads code (with_flag flag false v) n Q) → Leads code w steps Q
branching code flag w v m steps Q walk set clear = by (flag_of flag v) refl
  where
    go : (b : Bool) → flag_of flag v ≡ b → (n : ℕ) × (m + n ≡ steps) × Leads code (with_flag flag b v) n Q → Leads code w steps Q
    go b is (n, are, leads) = subst (λ k. Leads code w k Q) are (onward code flag b w v m n Q walk is leads)

    by : (b : Bool) → flag_of flag v ≡ b → Leads code w steps Q
    by true is = go true is (set is)
    by false is = go false is (clear is)

-- a value that depends on a flag, if the flag is set and if it is clear
pub then_is : (b : Bool) (m n : ℕ) → b ≡ true → m ≡ (if b then m else n)
then_is b m n is = sym (ap (λ v. if v then m else n) is)

pub else_is : (b : Bool) (m n : ℕ) → b ≡ false → n ≡ (if b then m else n)
else_is b m n is = sym (ap (λ v. if v then m else n) is)

-- each branch, with its opcode, the flag that it tests, and the value with which it is taken
pub data Branches : Mnemonic → ℕ → Flag → Bool → Type 0 where
  bpl : Branches Bpl 0x10 N false
  bmi : Branches Bmi 0x30 N true
  bvc : Branches Bvc 0x50 V false
  bvs : Branches Bvs 0x70 V true
  bcc : Branches Bcc 0x90 C false
  bcs : Branches Bcs 0xB0 C true
  bne : Branches Bne 0xD0 Z false
  beq : Branches Beq 0xF0 Z true

-- whether it is taken
abbrev pub is_taken : (value is : Bool) → Bool
is_taken true is = is
is_taken false is = not is

-- the world after it: at its target, or at the next instruction
abbrev pub branched : (taken : Bool) → ℕ → World → World
branched true to w = record w {
  registers = record w.registers { pc = to };
  cycles = w.cycles + (2 + (1 + one_if (is_other_page ((w.registers.pc + 2) % 65536) to)));
}
branched false to w = record w { registers = record w.registers { pc = (w.registers.pc + 2) % 65536 }; cycles = w.cycles + 2 }

-- the step of each branch, taken and not taken
pub branch : (code : Code) (w : World) (m : Mnemonic) (opcode : ℕ) (flag : Flag) (value is : Bool) (to : ℕ) → Branches m opcode flag value
    → IsAtPc code w (record { row = branch_row m opcode; value = to }) → flag_of flag w ≡ is
    → walked code w 1 ≡ Some (branched (is_taken value is) to w)
unfolding refusal_of effect_of performed after_effect stores_of
branch code w m opcode flag value is to one stands known =
    subst (λ v. walked code v 1 ≡ Some (branched (is_taken value is) to v)) (same_flag flag is w known)
    (each one is (subst (λ v. IsAtPc code v (record { row = branch_row m opcode; value = to })) (sym (same_flag flag is w known)) stands))
  where
    each : {m : Mnemonic} {opcode : ℕ} {flag : Flag} {value : Bool} → Branches m opcode flag value → (is : Bool)
        → IsAtPc code (with_flag flag is w) (record { row = branch_row m opcode; value = to })
        → walked code (with_flag flag is w) 1 ≡ Some (branched (is_taken value is) to (with_flag flag is w))
    each bpl true stands = step code _ _ stands refl refl
    each bpl false stands = step code _ _ stands refl refl
    each bmi true stands = step code _ _ stands refl refl
    each bmi false stands = step code _ _ stands refl refl
    each bvc true stands = step code _ _ stands refl refl
    each bvc false stands = step code _ _ stands refl refl
    each bvs true stands = step code _ _ stands refl refl
    each bvs false stands = step code _ _ stands refl refl
    each bcc true stands = step code _ _ stands refl refl
    each bcc false stands = step code _ _ stands refl refl
    each bcs true stands = step code _ _ stands refl refl
    each bcs false stands = step code _ _ stands refl refl
    each bne true stands = step code _ _ stands refl refl
    each bne false stands = step code _ _ stands refl refl
    each beq true stands = step code _ _ stands refl refl
    each beq false stands = step code _ _ stands refl refl

-- Where execution continues after a service: at its caller, as after an RTS, or through a hook.
use Rattle.std.specs.Prelude.{◌≡◌, ◌<◌, ℕ, ◌+◌, ◌*◌, ◌%◌, Bool, IsTrue, [], ◌∷◌}
use Rattle.std.proofs.Common.{sym, ap, ap₂, ◌∙◌, subst, arith}
use Rattle.a2_bus.specs.Memory.{memory_access, ram_byte, ram_end}
use Rattle.a2_effect.specs.Instruction.{returned}
use Rattle.a2_effect.specs.Registers.{Registers}
use Rattle.a2_services.specs.World.{World}
use Rattle.a2_services.proofs.Returning.{returned_is}
use Rattle.a2_footprint.specs.InstructionReads.{pull_address}
use Rattle.a2_footprint.specs.declared.Part.{Part}
use Rattle.a2_footprint.specs.declared.Part.TheVariants.{A as part_a}
use Rattle.a2_footprint.specs.Reads.{AgreeOn, Knows}
use Rattle.a2_footprint.specs.Parts.{held, MatchAt}
use Rattle.a2_footprint.specs.Calls.{caller}

-- the registers after a return
abbrev pub called_from : World → Registers
called_from w = record w.registers { s = (w.registers.s + 2) % 256; pc = caller w }

pub returned_registers : (w : World) → (returned memory_access w).registers ≡ called_from w
returned_registers w =
    let raised : ((w.registers.s + 1) % 256 + 1) % 256 ≡ (w.registers.s + 2) % 256 = omega arith in
    ap (λ (v : World). v.registers) (returned_is w)
    ∙ (λ i. record w.registers {
      s = raised i;
      pc = (ram_byte w.memory (256 + (w.registers.s + 1) % 256) + 256 * ram_byte w.memory (256 + raised i) + 1) % 65536;
    })

-- S and PC are not parts
pub placed_match : (k : Part → Bool) (r q : Registers) (s t pc at : ℕ) → MatchAt k r q → s ≡ t → pc ≡ at
    → MatchAt k (record r { s = s; pc = pc }) (record q { s = t; pc = at })
placed_match k r q s t pc at h same_s same_pc = record { s = same_s; pc = same_pc; parts = part }
  where
    part : (p : Part) → IsTrue (k p) → held p (record r { s = s; pc = pc }) ≡ held p (record q { s = t; pc = at })
    part part_a known = h.parts part_a known
    part p known = h.parts p known

-- two worlds that hold the same return address return in the same way
pub returning : (k : Part → Bool) (known : ℕ → Bool) (v w : World) → MatchAt k v.registers w.registers → AgreeOn known v.memory w.memory
    → Knows known (pull_address v.registers.s 1 ∷ pull_address v.registers.s 2 ∷ [])
    → MatchAt k (returned memory_access v).registers (returned memory_access w).registers
returning k known v w h agree shown =
    subst (λ r. MatchAt k r (returned memory_access w).registers) (sym (returned_registers v))
    (subst (λ r. MatchAt k (called_from v) r) (sym (returned_registers w))
    (placed_match k v.registers w.registers _ _ _ _ h (ap (λ s. (s + 2) % 256) h.s)
    (ap₂ (λ low high. (low + 256 * high + 1) % 65536)
    (agree.bytes (pull_address v.registers.s 1) (first_low v.registers.s) shown.0 ∙ ap (λ s. ram_byte w.memory (pull_address s 1)) h.s)
    (agree.bytes (pull_address v.registers.s 2) (second_low v.registers.s) shown.1.0 ∙ ap (λ s. ram_byte w.memory (pull_address s 2)) h.s))))
  where
    first_low : (s : ℕ) → pull_address s 1 < ram_end
    first_low s = omega arith

    second_low : (s : ℕ) → pull_address s 2 < ram_end
    second_low s = omega arith

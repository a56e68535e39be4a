-- Parts of the registers that are known, and processors that agree in them. This project's own.
use Rattle.std.specs.Prelude.{◌≡◌, ℕ, Bool, true, false, ◌||◌, IsTrue, List}
use Rattle.std.specs.List.{list_any}
use Rattle.a2_effect.specs.Registers.{Registers}
use Rattle.a2_footprint.specs.declared.Part.{Part}
use Rattle.a2_footprint.specs.declared.Part.TheVariants.{A as part_a, X as part_x, Y as part_y, N as part_n, V as part_v, D as part_d, I as part_i, Z as part_z, C as part_c}

-- the value of a part: a number for a register, and whether it is set for a flag
abbrev pub Held : Part → Type 0
Held part_a = ℕ
Held part_x = ℕ
Held part_y = ℕ
Held _ = Bool

abbrev pub held : (part : Part) → Registers → Held part
held part_a registers = registers.a
held part_x registers = registers.x
held part_y registers = registers.y
held part_n registers = registers.flags.n
held part_v registers = registers.flags.v
held part_d registers = registers.flags.d
held part_i registers = registers.flags.i
held part_z registers = registers.flags.z
held part_c registers = registers.flags.c

-- two processors agree in the known parts, and have the same S and PC
pub record MatchAt (known : Part → Bool) (r q : Registers) : Type 0 where
  pub s : r.s ≡ q.s
  pub pc : r.pc ≡ q.pc
  pub parts : (part : Part) → IsTrue (known part) → held part r ≡ held part q

abbrev pub is_part : Part → Part → Bool
is_part part_a part_a = true
is_part part_x part_x = true
is_part part_y part_y = true
is_part part_n part_n = true
is_part part_v part_v = true
is_part part_d part_d = true
is_part part_i part_i = true
is_part part_z part_z = true
is_part part_c part_c = true
is_part _ _ = false

-- the parts of a list, together with those known before
abbrev pub with_parts : List Part → (Part → Bool) → Part → Bool
with_parts more known part = list_any (is_part part) more || known part

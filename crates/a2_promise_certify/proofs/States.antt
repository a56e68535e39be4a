-- A world and the state with the same inputs are alike in what is known.
use Rattle.std.specs.Prelude.{◌≡◌, ◌≢◌, ◌⊎◌, ℕ, ◌%◌, ◌==◌, ◌||◌, Bool, true, false, IsTrue, List, [], ◌∷◌, map, refl}
use Rattle.std.proofs.Common.{sym, ap, ◌∙◌, arith, inl, inr, true≢false}
use Rattle.std.proofs.lemmas.Bool.Decides.{nat_tests}
use Rattle.a2_page.proofs.GridLemmas.{same_or_not}
use Rattle.a2_bus.specs.Memory.{Memory, ram_byte, with_ram}
use Rattle.a2_bus.proofs.Frame.{ram_byte-with_ram}
use Rattle.a2_effect.specs.Registers.{one_if}
use Rattle.a2_services.specs.World.{World}
use Rattle.a2_footprint.specs.declared.Part.{Part}
use Rattle.a2_footprint.specs.declared.Part.TheVariants.{A as part_a, X as part_x, Y as part_y, N as part_n, V as part_v, I as part_i, Z as part_z, C as part_c, D as part_d}
use Rattle.a2_footprint.specs.Reads.{AgreeOn}
use Rattle.a2_footprint.specs.Parts.{held, is_part}
use Rattle.a2_footprint.specs.Uses.{Near}
use Rattle.a2_footprint.proofs.Agreeing.{Pages, pages-with_ram, devices-with_ram, written_back}
use Rattle.a2_promise_certify.specs.declared.input.Input.{Input}
use Rattle.a2_promise_certify.specs.declared.input.Input.TheVariants.{A, X, Y, Carry, Zero, Negative, Overflow, Interrupt, Byte}
use Rattle.a2_promise_certify.specs.States.{Trial, Enters, has_byte, has_part, holds_part, known_bytes, known_parts, value_in, with_value, with_values}

-- what setting inputs leaves unchanged
pub record Frame (before following : World) : Type 0 where
  pub s : following.registers.s ≡ before.registers.s
  pub pc : following.registers.pc ≡ before.registers.pc
  pub cycles : following.cycles ≡ before.cycles
  pub devices : following.memory.devices ≡ before.memory.devices
  pub pages : Pages before.memory → Pages following.memory

frame : (input : Input) (value : ℕ) (w : World) → Frame w (with_value input value w)
frame (Byte a) value w = record {
  s = refl;
  pc = refl;
  cycles = refl;
  devices = devices-with_ram w.memory a value;
  pages = pages-with_ram w.memory a value;
}
frame input value w = record { s = refl; pc = refl; cycles = refl; devices = refl; pages = λ h. h }

pub frames : (inputs : List Input) (values : List ℕ) (w : World) → Frame w (with_values inputs values w)
frames [] values w = record { s = refl; pc = refl; cycles = refl; devices = refl; pages = λ h. h }
frames (input ∷ inputs) [] w = record { s = refl; pc = refl; cycles = refl; devices = refl; pages = λ h. h }
frames (input ∷ inputs) (value ∷ values) w =
    let rest : Frame w (with_values inputs values w) = frames inputs values w in
    let first : Frame (with_values inputs values w) (with_value input value (with_values inputs values w)) =
    frame input value (with_values inputs values w) in
    record {
      s = first.s ∙ rest.s;
      pc = first.pc ∙ rest.pc;
      cycles = first.cycles ∙ rest.cycles;
      devices = first.devices ∙ rest.devices;
      pages = λ h. first.pages (rest.pages h);
    }

-- The number of a flag determines the flag.
flag : (set : Bool) → (one_if set % 2 == 1) ≡ set
flag true = refl
flag false = refl

part_set : (input : Input) (part : Part) (w other : World)
    → (holds_part input part ≡ true) ⊎ (held part other.registers ≡ held part w.registers)
    → held part (with_value input (value_in w input) other).registers ≡ held part w.registers
part_set A part_a w other h = refl
part_set X part_x w other h = refl
part_set Y part_y w other h = refl
part_set Carry part_c w other h = flag w.registers.flags.c
part_set Zero part_z w other h = flag w.registers.flags.z
part_set Negative part_n w other h = flag w.registers.flags.n
part_set Overflow part_v w other h = flag w.registers.flags.v
part_set Interrupt part_i w other h = flag w.registers.flags.i
part_set input part w other (inr e) = e
part_set input part w other (inl bad) = absurd (true≢false (sym bad))

pub parts_set : (inputs : List Input) (part : Part) (w base : World)
    → (has_part inputs part ≡ true) ⊎ (held part base.registers ≡ held part w.registers)
    → held part (with_values inputs (map (value_in w) inputs) base).registers ≡ held part w.registers
parts_set [] part w base (inl bad) = absurd (true≢false (sym bad))
parts_set [] part w base (inr e) = e
parts_set (input ∷ rest) part w base h =
    part_set input part w (with_values rest (map (value_in w) rest) base) (go (holds_part input part) h (λ later. parts_set rest part w base later))
  where
    go : (here : Bool) → ((here || has_part rest part) ≡ true) ⊎ (held part base.registers ≡ held part w.registers)
        → ((has_part rest part ≡ true) ⊎ (held part base.registers ≡ held part w.registers)
        → held part (with_values rest (map (value_in w) rest) base).registers ≡ held part w.registers)
        → (here ≡ true) ⊎ (held part (with_values rest (map (value_in w) rest) base).registers ≡ held part w.registers)
    go true _ later = inl refl
    go false h later = inr (later h)

pub bytes_set : (inputs : List Input) (a : ℕ) (w base : World) → Pages base.memory
    → (has_byte inputs a ≡ true) ⊎ (ram_byte base.memory a ≡ ram_byte w.memory a)
    → ram_byte (with_values inputs (map (value_in w) inputs) base).memory a ≡ ram_byte w.memory a
bytes_set [] a w base pages (inl bad) = absurd (true≢false (sym bad))
bytes_set [] a w base pages (inr e) = e
bytes_set (Byte b ∷ rest) a w base pages h = go (same_or_not a b) (λ later. bytes_set rest a w base pages later)
  where
    m : Memory
    m = (with_values rest (map (value_in w) rest) base).memory

    other : a ≢ b → ((b == a) || has_byte rest a) ≡ has_byte rest a
    other apart = let e : (b == a) ≡ false = grind (arith, nat_tests, apart) in ap (λ v. v || has_byte rest a) e

    left : a ≢ b → (((b == a) || has_byte rest a) ≡ true) ⊎ (ram_byte base.memory a ≡ ram_byte w.memory a)
        → (has_byte rest a ≡ true) ⊎ (ram_byte base.memory a ≡ ram_byte w.memory a)
    left apart (inl among) = inl (sym (other apart) ∙ among)
    left apart (inr e) = inr e

    go : (a ≡ b) ⊎ (a ≢ b) → ((has_byte rest a ≡ true) ⊎ (ram_byte base.memory a ≡ ram_byte w.memory a) → ram_byte m a ≡ ram_byte w.memory a)
        → ram_byte (with_ram m b (ram_byte w.memory b)) a ≡ ram_byte w.memory a
    go (inl e) later =
        ap (λ k. ram_byte (with_ram m b (ram_byte w.memory b)) k) e
        ∙ written_back m b (ram_byte w.memory b) ((frames rest (map (value_in w) rest) base).pages pages)
        ∙ ap (λ k. ram_byte w.memory k) (sym e)
    go (inr apart) later = ram_byte-with_ram m b (ram_byte w.memory b) a apart ∙ later (left apart h)
bytes_set (input ∷ rest) a w base pages h = bytes_set rest a w base pages h

-- the state with the inputs of a world
abbrev pub with_inputs : Trial → World → World
with_inputs trial w = with_values trial.inputs (map (value_in w) trial.inputs) trial.base

or_known : (among fixed : Bool) → IsTrue (among || fixed) → (among ≡ true) ⊎ IsTrue fixed
or_known true fixed h = inl refl
or_known false fixed h = inr h

pub near : (trial : Trial) (w : World) → Pages trial.base.memory → Enters trial w
    → Near (known_parts trial) (AgreeOn (known_bytes trial)) (with_inputs trial w) w
near trial w pages h =
    let same : Frame trial.base (with_inputs trial w) = frames trial.inputs (map (value_in w) trial.inputs) trial.base in
    record {
      registers = record {
        s = same.s ∙ h.registers.s;
        pc = same.pc ∙ h.registers.pc;
        parts = λ part known. parts_set trial.inputs part w trial.base
            (part_of part (or_known (has_part trial.inputs part) (is_part part part_d) known));
      };
      cycles = same.cycles ∙ h.cycles;
      memory = record {
        left_pages = same.pages pages;
        right_pages = h.pages;
        devices = same.devices ∙ h.devices;
        bytes = λ a low known. bytes_set trial.inputs a w trial.base pages
            (byte_of a (or_known (has_byte trial.inputs a) (trial.fixed a) known));
      };
    }
  where
    part_of : (part : Part) → (has_part trial.inputs part ≡ true) ⊎ IsTrue (is_part part part_d)
        → (has_part trial.inputs part ≡ true) ⊎ (held part trial.base.registers ≡ held part w.registers)
    part_of part (inl among) = inl among
    part_of part (inr is) = inr (h.registers.parts part is)

    byte_of : (a : ℕ) → (has_byte trial.inputs a ≡ true) ⊎ IsTrue (trial.fixed a)
        → (has_byte trial.inputs a ≡ true) ⊎ (ram_byte trial.base.memory a ≡ ram_byte w.memory a)
    byte_of a (inl among) = inl among
    byte_of a (inr is) = inr (h.bytes a is)

-- A world, and the same world with the stack rotated within its page.
use Rattle.std.specs.Prelude.{◌≡◌, ◌<◌, ◌≤◌, ◌==◌, ◌&&◌, ℕ, ◌+◌, ◌-◌, ◌*◌, ◌%◌, ◌||◌, Bool, true, false, IsTrue, if◌then◌else◌, List, [], ◌∷◌, map, nat_lt, refl}
use Rattle.std.proofs.Common.{sym, ap, ap₂, ◌∙◌, subst, arith, true≢false}
use Rattle.std.proofs.lemmas.Bool.Decides.{nat_tests}
use Rattle.a2_bus.specs.Memory.{ram_byte}
use Rattle.a2_effect.specs.Registers.{Registers}
use Rattle.a2_services.specs.World.{World}
use Rattle.a2_footprint.specs.InstructionReads.{pull_address}
use Rattle.a2_footprint.specs.declared.Part.{Part}
use Rattle.a2_footprint.specs.declared.Part.TheVariants.{A as part_a}
use Rattle.a2_footprint.specs.Calls.{caller}
use Rattle.a2_footprint.specs.Counting.{IsState}
use Rattle.a2_footprint.specs.Parts.{held}
use Rattle.a2_footprint.specs.RotatedStack.{IsRotated, in_stack, rotated_address, rotated_memory}
use Rattle.a2_footprint.proofs.RotatedMemory.{turned_byte, not_in_stack, turned_place}
use Rattle.a2_promise_certify.specs.declared.input.Input.{Input}
use Rattle.a2_promise_certify.specs.declared.input.Input.TheVariants.{Byte}
use Rattle.a2_promise_certify.specs.Kept.{is_own}
use Rattle.a2_promise_certify.specs.States.{Trial, Enters, has_byte, known_bytes, value_in, values_of, with_s}
use Rattle.a2_promise_certify.proofs.Moments.{AreAlike}

-- Registers and bytes

s_part : (part : Part) (r : Registers) (s : ℕ) → held part (record r { s = s }) ≡ held part r
s_part part_a r s = refl
s_part part r s = refl

pub turned_part : (turn : ℕ) (v w : World) → IsRotated turn v w → (part : Part) → held part v.registers ≡ held part w.registers
turned_part turn v w h part = ap (λ r. held part r) h.registers ∙ s_part part w.registers v.registers.s

pub same_byte : (turn : ℕ) (v w : World) → IsRotated turn v w → (a : ℕ) → in_stack a ≡ false → ram_byte w.memory a ≡ ram_byte v.memory a
same_byte turn v w h a off =
    ap (λ m. ram_byte m a) h.memory ∙ turned_byte turn v.memory a ∙ ap (λ b. ram_byte v.memory b) (not_in_stack turn a off)

-- both are alike in what is outside the stack's page
pub turned_alike : (known : ℕ → Bool) (looked : Part → Bool) (one first other second turned_other turned_second : World) (turn more : ℕ)
    → IsRotated turn other turned_other → IsRotated more second turned_second
    → AreAlike known looked one first other second → AreAlike known looked one first turned_other turned_second
turned_alike known looked one first other second turned_other turned_second turn more h g alike = record {
  parts = λ part is. alike.parts part is ∙ turned_part more second turned_second g part;
  bytes = λ a low off is. alike.bytes a low off is ∙ sym (same_byte more second turned_second g a off);
  cycles = alike.cycles ∙ ap₂ (λ m n. m - n) (sym g.cycles) (sym h.cycles);
}

-- The stack

pub still_stacked : (turn a : ℕ) → in_stack a ≡ true → in_stack (rotated_address turn a) ≡ true
still_stacked turn a is = ap (λ v. in_stack (if v then 0x100 + (a + turn) % 256 else a)) is ∙ inside ((a + turn) % 256) (omega arith)
  where
    inside : (n : ℕ) → n < 256 → in_stack (0x100 + n) ≡ true
    inside n lt = grind (arith, nat_tests, lt)

-- A byte is the routine's own wherever S points.
pub same_own : (turn : ℕ) (v w : World) → IsRotated turn v w → (a : ℕ) → in_stack a ≡ true
    → is_own v.registers.s (rotated_address turn a) ≡ is_own w.registers.s a
same_own turn v w h a is =
    let low : (0x100 ≤ a) × (a ≤ 0x1FF) = bounds a is in
    let at : rotated_address turn a ≡ 0x100 + (a + turn) % 256 = ap (λ t. if t then 0x100 + (a + turn) % 256 else a) is in
    let same : (v.registers.s + 0x200 - rotated_address turn a) % 256 ≡ (w.registers.s + 0x200 - a) % 256 = omega (arith, at, low.0, low.1, h.s, h.low) in
    ap₂ (λ t n. t && nat_lt n 126) (still_stacked turn a is ∙ sym is) same
  where
    bounds : (a : ℕ) → in_stack a ≡ true → (0x100 ≤ a) × (a ≤ 0x1FF)
    bounds a is = (grind (arith, nat_tests, is), grind (arith, nat_tests, is))

-- the return address is the same
pulled : (turn : ℕ) (v w : World) → IsRotated turn v w → (count : ℕ)
    → ram_byte w.memory (pull_address w.registers.s count) ≡ ram_byte v.memory (pull_address v.registers.s count)
pulled turn v w h count =
    ap (λ m. ram_byte m (pull_address w.registers.s count)) h.memory
    ∙ turned_byte turn v.memory (pull_address w.registers.s count)
    ∙ ap (λ a. ram_byte v.memory a)
    (let at : rotated_address turn (pull_address w.registers.s count) ≡ 0x100 + ((w.registers.s + count) % 256 + turn) % 256 =
    turned_place turn ((w.registers.s + count) % 256) (omega arith) in
    let e : 0x100 + ((w.registers.s + count) % 256 + turn) % 256 ≡ pull_address v.registers.s count = omega (arith, h.s) in at ∙ e)

pub same_caller : (turn : ℕ) (v w : World) → IsRotated turn v w → caller v ≡ caller w
same_caller turn v w h =
    ap₂ (λ low high. (low + 256 * high + 1) % 65536) (sym (pulled turn v w h 1)) (sym (pulled turn v w h 2))

raised : (turn s other_s w v : ℕ) → (w + turn) % 256 ≡ s → other_s ≡ (s + 2) % 256 → (v + turn) % 256 ≡ other_s → v < 256 → v ≡ (w + 2) % 256
raised turn s other_s w v e f g low = omega (arith, e, f, g, low)

-- After a return both are back at their callers.
pub turned_back : (turn : ℕ) (t w : World) → IsRotated turn t w → (t_mid w_mid t_last w_last : World) → IsRotated turn t_mid w_mid → IsRotated turn t_last w_last
    → t_last.registers ≡ (let r : Registers = t_mid.registers in record r { s = (t.registers.s + 2) % 256; pc = caller t })
    → w_last.registers ≡ (let r : Registers = w_mid.registers in record r { s = (w.registers.s + 2) % 256; pc = caller w })
turned_back turn t w h t_mid w_mid t_last w_last mid last back = λ i. record {
  a = (sym (ap (λ (r : Registers). r.a) last.registers) ∙ ap (λ (r : Registers). r.a) back ∙ ap (λ (r : Registers). r.a) mid.registers) i;
  x = (sym (ap (λ (r : Registers). r.x) last.registers) ∙ ap (λ (r : Registers). r.x) back ∙ ap (λ (r : Registers). r.x) mid.registers) i;
  y = (sym (ap (λ (r : Registers). r.y) last.registers) ∙ ap (λ (r : Registers). r.y) back ∙ ap (λ (r : Registers). r.y) mid.registers) i;
  s = raised turn t.registers.s t_last.registers.s w.registers.s w_last.registers.s h.s (ap (λ (r : Registers). r.s) back) last.s last.low i;
  pc = (sym (ap (λ (r : Registers). r.pc) last.registers) ∙ ap (λ (r : Registers). r.pc) back ∙ same_caller turn t w h) i;
  flags = (sym (ap (λ (r : Registers). r.flags) last.registers) ∙ ap (λ (r : Registers). r.flags) back ∙ ap (λ (r : Registers). r.flags) mid.registers) i;
}

-- The world whose stack is rotated to another S

-- the distance from one S to another
pub turn_to : ℕ → ℕ → ℕ
turn_to from to = (to + 256 - from) % 256

pub turned_from : ℕ → ℕ → World → World
turned_from turn s w = record w {
  registers = record w.registers { s = s };
  memory = rotated_memory (256 - turn) w.memory;
}

twice : (turn a : ℕ) → turn < 256 → rotated_address (256 - turn) (rotated_address turn a) ≡ a
twice turn a lt = go (in_stack a) refl
  where
    at : (stacked : Bool) → in_stack a ≡ stacked → rotated_address turn a ≡ (if stacked then 0x100 + (a + turn) % 256 else a)
    at stacked is = ap (λ t. if t then 0x100 + (a + turn) % 256 else a) is

    bounds : in_stack a ≡ true → (0x100 ≤ a) × (a ≤ 0x1FF)
    bounds is = (grind (arith, nat_tests, is), grind (arith, nat_tests, is))

    go : (stacked : Bool) → in_stack a ≡ stacked → rotated_address (256 - turn) (rotated_address turn a) ≡ a
    go true is =
        let low : (0x100 ≤ a) × (a ≤ 0x1FF) = bounds is in
        ap (λ b. rotated_address (256 - turn) b) (at true is)
        ∙ turned_place (256 - turn) ((a + turn) % 256) (omega arith)
        ∙ (let e : 0x100 + ((a + turn) % 256 + (256 - turn)) % 256 ≡ a = omega (arith, lt, low.0, low.1) in e)
    go false is = ap (λ b. rotated_address (256 - turn) b) (at false is) ∙ not_in_stack (256 - turn) a is

pub is_turned_from : (from to : ℕ) (w : World) → w.registers.s ≡ from → from < 256 → to < 256
    → IsRotated (turn_to from to) (turned_from (turn_to from to) to w) w
unfolding turn_to turned_from
is_turned_from from to w is low high =
    let lt : (to + 256 - from) % 256 < 256 = omega arith in
    record {
      registers = refl;
      low = omega (arith, is, low);
      s = omega (arith, is, low, high);
      memory = λ i. record w.memory { plain = λ a. w.memory.plain (sym (twice ((to + 256 - from) % 256) a lt) i) };
      cycles = refl;
    }

-- The values of the inputs are the same.

or_first : (first second : Bool) → IsTrue first → IsTrue (first || second)
or_first true second is = refl
or_first false second bad = absurd (true≢false (sym bad))

or_second : (first second : Bool) → IsTrue second → IsTrue (first || second)
or_second true second is = refl
or_second false second is = is

pub same_inputs : (turn : ℕ) (v w : World) → IsRotated turn v w → (inputs : List Input) → ((a : ℕ) → IsTrue (has_byte inputs a) → in_stack a ≡ false)
    → map (value_in w) inputs ≡ map (value_in v) inputs
same_inputs turn v w h [] off = refl
same_inputs turn v w h (Byte b ∷ rest) off =
    ap₂ (λ x xs. x ∷ xs) (same_byte turn v w h b (off b (or_first (b == b) (has_byte rest b) (let e : (b == b) ≡ true = grind (arith, nat_tests) in e))))
    (same_inputs turn v w h rest (λ a is. off a (or_second (b == a) (has_byte rest a) is)))
same_inputs turn v w h (input ∷ rest) off =
    ap₂ (λ x xs. x ∷ xs) (sym (ap (λ (r : Registers). value_in (record v { registers = r }) input) h.registers))
    (same_inputs turn v w h rest off)

-- So it enters a trial if the other world enters the same trial with its own S.
pub entered_there : (trial : Trial) (s : ℕ) (w : World) → s < 256 → trial.base.registers.s < 256 → Enters (with_s s trial) w
    → ((a : ℕ) → IsTrue (known_bytes trial a) → in_stack a ≡ false)
    → Enters trial (turned_from (turn_to s trial.base.registers.s) trial.base.registers.s w)
unfolding turned_from
entered_there trial s w low high h off =
    let turn : ℕ = turn_to s trial.base.registers.s in
    let u : World = turned_from turn trial.base.registers.s w in
    let turned : IsRotated turn u w = is_turned_from s trial.base.registers.s w (sym h.registers.s) low high in
    record {
      registers = record { s = refl; pc = h.registers.pc; parts = λ part is. sym (s_part part trial.base.registers s) ∙ h.registers.parts part is ∙ sym (turned_part turn u w turned part) };
      bytes = λ a is. h.bytes a is ∙ same_byte turn u w turned a (off a (or_second (has_byte trial.inputs a) (trial.fixed a) is));
      devices = h.devices;
      pages = h.pages;
      cycles = h.cycles;
      inputs = subst (λ values. IsState (map values_of trial.inputs) values)
          (same_inputs turn u w turned trial.inputs (λ a is. off a (or_first (has_byte trial.inputs a) (trial.fixed a) is))) h.inputs;
    }

-- A promise that holds in every state of its inputs holds in every world.
use Rattle.std.specs.Prelude.{◌≡◌, ◌≢◌, ◌⊎◌, ◌==◌, ◌||◌, ℕ, Bool, true, false, IsTrue, if◌then◌else◌, List, [], ◌∷◌, map, refl}
use Rattle.std.proofs.Common.{sym, ap, ap₂, ◌∙◌, subst, arith, inl, inr, true≢false}
use Rattle.std.proofs.lemmas.Bool.Decides.{nat_tests}
use Rattle.a2_text.specs.Bytes.{is_among}
use Rattle.a2_page.proofs.GridLemmas.{same_or_not}
use Rattle.a2_bus.specs.Memory.{Memory, ram_byte, with_ram}
use Rattle.a2_bus.proofs.Frame.{ram_byte-with_ram}
use Rattle.a2_effect.specs.Registers.{Registers}
use Rattle.a2_cpu.specs.Stores.{IsNotIn}
use Rattle.a2_services.specs.World.{World}
use Rattle.a2_machine.specs.Meaning.{world_at}
use Rattle.a2_footprint.specs.Reads.{AgreeOn}
use Rattle.a2_footprint.specs.declared.Part.{Part}
use Rattle.a2_footprint.specs.declared.Part.TheVariants.{A as part_a, X as part_x, Y as part_y, N as part_n, V as part_v, D as part_d, I as part_i, Z as part_z, C as part_c}
use Rattle.a2_footprint.specs.Parts.{held, MatchAt}
use Rattle.a2_footprint.specs.Runs.{bytes_known_after}
use Rattle.a2_footprint.specs.Uses.{Near, parts_known_after}
use Rattle.a2_footprint.specs.Promises.{Selection, Promise, IsKnown, Passes, Holds, Meets, PromisesHoldEverywhere, known_bytes, known_parts, with_selected, selected, with_bytes_of, with_inputs, TriesDependOnInputs}
use Rattle.a2_footprint.proofs.Agreeing.{Pages, pages-with_ram, devices-with_ram, written_back}
use Rattle.a2_footprint.proofs.Running.{runs}

-- Another memory's bytes

pages-with_bytes_of : (m other : Memory) (ns : List ℕ) → Pages m → Pages (with_bytes_of other ns m)
pages-with_bytes_of m other [] h = h
pages-with_bytes_of m other (n ∷ ns) h = pages-with_ram (with_bytes_of other ns m) n (ram_byte other n) (pages-with_bytes_of m other ns h)

devices-with_bytes_of : (m other : Memory) (ns : List ℕ) → (with_bytes_of other ns m).devices ≡ m.devices
devices-with_bytes_of m other [] = refl
devices-with_bytes_of m other (n ∷ ns) = devices-with_ram (with_bytes_of other ns m) n (ram_byte other n) ∙ devices-with_bytes_of m other ns

among-other : (n : ℕ) (ns : List ℕ) (a : ℕ) → a ≢ n → is_among (n ∷ ns) a ≡ is_among ns a
among-other n ns a other = let e : (n == a) ≡ false = grind (arith, nat_tests, other) in ap (λ b. b || is_among ns a) e

among-here : (n : ℕ) (ns : List ℕ) (a : ℕ) → a ≡ n → is_among (n ∷ ns) a ≡ true
among-here n ns a e = let here : (n == a) ≡ true = grind (arith, nat_tests, e) in ap (λ b. b || is_among ns a) here

among-following : (n : ℕ) (ns : List ℕ) (a : ℕ) → is_among ns a ≡ true → is_among (n ∷ ns) a ≡ true
among-following n ns a h = go (n == a)
  where
    go : (here : Bool) → here || is_among ns a ≡ true
    go true = refl
    go false = h

taken : (m other : Memory) (ns : List ℕ) (a : ℕ) → Pages m → is_among ns a ≡ true
    → ram_byte (with_bytes_of other ns m) a ≡ ram_byte other a
taken m other [] a h bad = absurd (true≢false (sym bad))
taken m other (n ∷ ns) a h among = go (same_or_not a n) (λ e. taken m other ns a h e)
  where
    go : (a ≡ n) ⊎ (a ≢ n) → (is_among ns a ≡ true → ram_byte (with_bytes_of other ns m) a ≡ ram_byte other a)
        → ram_byte (with_ram (with_bytes_of other ns m) n (ram_byte other n)) a ≡ ram_byte other a
    go (inl e) later =
        ap (λ k. ram_byte (with_ram (with_bytes_of other ns m) n (ram_byte other n)) k) e
        ∙ written_back (with_bytes_of other ns m) n (ram_byte other n) (pages-with_bytes_of m other ns h)
        ∙ ap (λ k. ram_byte other k) (sym e)
    go (inr apart) later =
        ram_byte-with_ram (with_bytes_of other ns m) n (ram_byte other n) a apart
        ∙ later (sym (among-other n ns a apart) ∙ among)

left : (m other : Memory) (ns : List ℕ) (a : ℕ) → is_among ns a ≡ false → ram_byte (with_bytes_of other ns m) a ≡ ram_byte m a
left m other [] a h = refl
left m other (n ∷ ns) a among = go (same_or_not a n) (λ e. left m other ns a e)
  where
    go : (a ≡ n) ⊎ (a ≢ n) → (is_among ns a ≡ false → ram_byte (with_bytes_of other ns m) a ≡ ram_byte m a)
        → ram_byte (with_ram (with_bytes_of other ns m) n (ram_byte other n)) a ≡ ram_byte m a
    go (inl e) later = absurd (true≢false (sym (among-here n ns a e) ∙ among))
    go (inr apart) later =
        ram_byte-with_ram (with_bytes_of other ns m) n (ram_byte other n) a apart
        ∙ later (sym (among-other n ns a apart) ∙ among)

-- The values of a selection

same-map : (f g : ℕ → ℕ) (ns : List ℕ) → ((a : ℕ) → is_among ns a ≡ true → f a ≡ g a) → map f ns ≡ map g ns
same-map f g [] same = refl
same-map f g (n ∷ ns) same =
    ap₂ (λ x xs. x ∷ xs) (same n (among-here n ns n refl)) (same-map f g ns (λ a among. same a (among-following n ns a among)))

same-if : {X : Type 0} (b : Bool) (x y none : X) → (IsTrue b → x ≡ y) → (if b then x else none) ≡ (if b then y else none)
same-if true x y none h = h refl
same-if false x y none h = refl

-- two worlds that agree in what is known have the same values of a selection that is known
pub same-selected : (k : Part → Bool) (known : ℕ → Bool) (selection : Selection) (s t : World) → Near k (AgreeOn known) s t
    → IsKnown known k selection
    → selected selection s ≡ selected selection t
same-selected k known selection s t h shown = λ j. record {
  bytes = same-map (λ a. ram_byte s.memory a) (λ a. ram_byte t.memory a) selection.addresses
      (λ a among. h.memory.bytes a (shown.bytes a among).0 (shown.bytes a among).1) j;
  registers = record {
    a = same-if (selection.parts part_a) s.registers.a t.registers.a 0 (λ l. h.registers.parts part_a (shown.parts part_a l)) j;
    x = same-if (selection.parts part_x) s.registers.x t.registers.x 0 (λ l. h.registers.parts part_x (shown.parts part_x l)) j;
    y = same-if (selection.parts part_y) s.registers.y t.registers.y 0 (λ l. h.registers.parts part_y (shown.parts part_y l)) j;
    s = h.registers.s j;
    pc = h.registers.pc j;
    flags = record {
      n = same-if (selection.parts part_n) s.registers.flags.n t.registers.flags.n false (λ l. h.registers.parts part_n (shown.parts part_n l)) j;
      v = same-if (selection.parts part_v) s.registers.flags.v t.registers.flags.v false (λ l. h.registers.parts part_v (shown.parts part_v l)) j;
      d = same-if (selection.parts part_d) s.registers.flags.d t.registers.flags.d false (λ l. h.registers.parts part_d (shown.parts part_d l)) j;
      i = same-if (selection.parts part_i) s.registers.flags.i t.registers.flags.i false (λ l. h.registers.parts part_i (shown.parts part_i l)) j;
      z = same-if (selection.parts part_z) s.registers.flags.z t.registers.flags.z false (λ l. h.registers.parts part_z (shown.parts part_z l)) j;
      c = same-if (selection.parts part_c) s.registers.flags.c t.registers.flags.c false (λ l. h.registers.parts part_c (shown.parts part_c l)) j;
    };
  };
}

chosen : {X : Type 0} (input fixed : Bool) (x y : X) → IsTrue (input || fixed) → (IsTrue fixed → y ≡ x)
    → (if input then x else y) ≡ x
chosen true fixed x y known same = refl
chosen false fixed x y known same = same known

-- the inputs of one processor, and the rest of one that agrees in the fixed parts
with_selected-match : (inputs fixed : Part → Bool) (r q : Registers) → MatchAt fixed q r
    → MatchAt (λ p. inputs p || fixed p) (with_selected inputs r q) r
with_selected-match inputs fixed r q h = record { s = h.s; pc = h.pc; parts = part }
  where
    part : (p : Part) → IsTrue (inputs p || fixed p) → held p (with_selected inputs r q) ≡ held p r
    part part_a known = chosen (inputs part_a) (fixed part_a) r.a q.a known (h.parts part_a)
    part part_x known = chosen (inputs part_x) (fixed part_x) r.x q.x known (h.parts part_x)
    part part_y known = chosen (inputs part_y) (fixed part_y) r.y q.y known (h.parts part_y)
    part part_n known = chosen (inputs part_n) (fixed part_n) r.flags.n q.flags.n known (h.parts part_n)
    part part_v known = chosen (inputs part_v) (fixed part_v) r.flags.v q.flags.v known (h.parts part_v)
    part part_d known = chosen (inputs part_d) (fixed part_d) r.flags.d q.flags.d known (h.parts part_d)
    part part_i known = chosen (inputs part_i) (fixed part_i) r.flags.i q.flags.i known (h.parts part_i)
    part part_z known = chosen (inputs part_z) (fixed part_z) r.flags.z q.flags.z known (h.parts part_z)
    part part_c known = chosen (inputs part_c) (fixed part_c) r.flags.c q.flags.c known (h.parts part_c)

-- a world that meets the precondition agrees with the base, given its inputs, in what is known
pub near : (promise : Promise) (Pass : World → Type 0) (world : World) → Holds promise Pass → Meets promise world
    → Near (known_parts promise) (AgreeOn (known_bytes promise)) (with_inputs promise world) world
near promise Pass world holds meets = record {
  registers = with_selected-match promise.inputs.parts promise.fixed.parts world.registers promise.base.registers meets.registers;
  cycles = sym meets.cycles;
  memory = record {
    left_pages = pages-with_bytes_of promise.base.memory world.memory promise.inputs.addresses holds.pages;
    right_pages = meets.pages;
    devices = devices-with_bytes_of promise.base.memory world.memory promise.inputs.addresses ∙ sym meets.devices;
    bytes = λ a lt known. byte a (is_among promise.inputs.addresses a) refl known;
  };
}
  where
    byte : (a : ℕ) (input : Bool) → is_among promise.inputs.addresses a ≡ input
        → IsTrue (input || is_among promise.fixed.addresses a)
        → ram_byte (with_bytes_of world.memory promise.inputs.addresses promise.base.memory) a ≡ ram_byte world.memory a
    byte a true is known = taken promise.base.memory world.memory promise.inputs.addresses a holds.pages is
    byte a false is known = left promise.base.memory world.memory promise.inputs.addresses a is ∙ sym (meets.bytes a known)

pub hold_everywhere : PromisesHoldEverywhere
hold_everywhere promise limit holds world meets =
    let start : World = with_inputs promise world in
    let here : Near (known_parts promise) (AgreeOn (known_bytes promise)) start world =
    near promise (Passes promise limit) world holds meets in
    let before : selected promise.before start ≡ selected promise.before world =
    same-selected (known_parts promise) (known_bytes promise) promise.before start world here holds.shown in
    let passes : Passes promise limit start =
    holds.every world meets.inputs (ap (λ now. promise.required now) before ∙ meets.required) in
    let law =
    runs promise.code (known_parts promise) (known_bytes promise) start world passes.steps here passes.reads passes.needs in
    record {
      steps = passes.steps;
      within = passes.within;
      ends = law.1.returns limit passes.within passes.home;
      passed = ap₂ (λ before following. promise.test before following)
          (sym before)
          (sym (same-selected (parts_known_after promise.code (known_parts promise) start passes.steps) (bytes_known_after promise.code (known_bytes promise) start passes.steps)
          promise.following (world_at promise.code start passes.steps) (world_at promise.code world passes.steps) law.0 passes.shown))
          ∙ passes.passed;
      rest = λ b stays. law.1.rest b (subst (λ ns. IsNotIn b ns) (sym law.1.stores) stays);
    }

-- The tries

same_bytes : (m one other : Memory) (ns : List ℕ) → ((a : ℕ) → is_among ns a ≡ true → ram_byte one a ≡ ram_byte other a)
    → with_bytes_of one ns m ≡ with_bytes_of other ns m
same_bytes m one other [] same = refl
same_bytes m one other (n ∷ ns) same =
    ap₂ (λ memory byte. with_ram memory n byte) (same_bytes m one other ns (λ a among. same a (among-following n ns a among)))
    (same n (among-here n ns n refl))

pub tries : TriesDependOnInputs
tries promise one other bytes parts = λ j. let base = promise.base in record base {
  memory = same_bytes base.memory one.memory other.memory promise.inputs.addresses bytes j;
  registers = let r : Registers = base.registers in record r {
    a = same-if (promise.inputs.parts part_a) one.registers.a other.registers.a r.a (parts part_a) j;
    x = same-if (promise.inputs.parts part_x) one.registers.x other.registers.x r.x (parts part_x) j;
    y = same-if (promise.inputs.parts part_y) one.registers.y other.registers.y r.y (parts part_y) j;
    flags = record {
      n = same-if (promise.inputs.parts part_n) one.registers.flags.n other.registers.flags.n r.flags.n (parts part_n) j;
      v = same-if (promise.inputs.parts part_v) one.registers.flags.v other.registers.flags.v r.flags.v (parts part_v) j;
      d = same-if (promise.inputs.parts part_d) one.registers.flags.d other.registers.flags.d r.flags.d (parts part_d) j;
      i = same-if (promise.inputs.parts part_i) one.registers.flags.i other.registers.flags.i r.flags.i (parts part_i) j;
      z = same-if (promise.inputs.parts part_z) one.registers.flags.z other.registers.flags.z r.flags.z (parts part_z) j;
      c = same-if (promise.inputs.parts part_c) one.registers.flags.c other.registers.flags.c r.flags.c (parts part_c) j;
    };
  };
}

-- Two memories are related, reads and writes of both preserve the relation, and both show the same bytes at some
-- addresses. Then each instruction that reads no other address, and uses only parts that agree, does the same on both.
use Rattle.std.specs.Prelude.{◌≡◌, ℕ, ◌+◌, ◌*◌, ◌/◌, ◌%◌, Bool, true, false, ◌&&◌, if◌then◌else◌, IsTrue, List, [], ◌∷◌, ◌++◌, refl}
use Rattle.std.proofs.Common.{ap, ap₂, ◌∙◌, subst, arith}
use Rattle.a2_opcode.specs.declared.Row.{Row}
use Rattle.a2_opcode.specs.declared.Mode.{Mode}
use Rattle.a2_opcode.specs.declared.Mode.TheVariants.{Accumulator, ZeroPageX, ZeroPageY, AbsoluteX, AbsoluteY, IndexedIndirect, IndirectIndexed}
use Rattle.a2_bus.specs.Access.{Access}
use Rattle.a2_effect.specs.Registers.{Registers, StatusFlags, flags_of_byte, one_if}
use Rattle.a2_effect.specs.Place.{Place, accumulator, address, pointer, place_of, base_address, zero_page_word, crosses_page}
use Rattle.a2_effect.specs.Effect.{Effect, Replacement, sets, takes, replaces, stores, pushes, pulls, branches, jumps, calls, returns, returns_from_interrupt, breaks, effect_of}
use Rattle.a2_effect.specs.Instruction.{State, with_pc, with_s, with_registers, after_read, after_write, stack_address, pushed, s_after_pull, pulled, after_pull, pulled_word, returned, returned_from_interrupt, called, jumped_through, operand_byte, memory_read, memory_put, replaced_registers, taken, replaced, stored, jumped, pc_at_target, branched_to, called_place, after_effect, branch_cycles, next_address, performed}
use Rattle.a2_footprint.specs.InstructionReads.{reads_of, effect_reads, pointer_reads, jump_reads, place_reads, pull_address}
use Rattle.a2_footprint.specs.Reads.{Knows}
use Rattle.a2_footprint.specs.declared.Part.{Part}
use Rattle.a2_footprint.specs.declared.Part.TheVariants.{A as part_a, X as part_x, Y as part_y}
use Rattle.a2_footprint.specs.InstructionParts.{all_flags, needs, mode_needs, sets_parts}
use Rattle.a2_footprint.specs.Parts.{held, MatchAt, with_parts}
use Rattle.a2_footprint.specs.Uses.{Near}
use Rattle.a2_footprint.proofs.Steady.{Steady, steady, s-match, flags-match}

-- a relation that reads and writes of both preserve, and under which both show the same at some addresses
pub record IsSeen {M N : Type 0} (R : M → N → Type 0) (seen : ℕ → Bool) (left : Access M) (right : Access N) : Type 0 where
  pub same_byte : (m : M) (n : N) (a : ℕ) → R m n → IsTrue (seen a) → left.byte_at m a ≡ right.byte_at n a
  pub kept_by_read : (m : M) (n : N) (a : ℕ) → R m n → R (left.after_read m a) (right.after_read n a)
  pub kept_by_write : (m : M) (n : N) (a b : ℕ) → R m n → R (left.after_write m a b) (right.after_write n a b)

pub knows-append : {X : Type 0} (known : X → Bool) (xs ys : List X) → Knows known (xs ++ ys) → Knows known xs × Knows known ys
knows-append known [] ys h = (tt, h)
knows-append known (x ∷ xs) ys h = ((h.0, (knows-append known xs ys h.1).0), (knows-append known xs ys h.1).1)

-- the pulls after the first one
pub second_pull : (s : ℕ) → pull_address s 2 ≡ pull_address ((s + 1) % 256) 1
second_pull s = omega arith

third_pull : (s : ℕ) → pull_address s 3 ≡ pull_address ((s + 1) % 256) 2
third_pull s = omega arith

pc-match : (k : Part → Bool) (r q : Registers) (m n : ℕ) → MatchAt k r q → m ≡ n
    → MatchAt k (record r { pc = m }) (record q { pc = n })
pc-match k r q m n h e = record { s = h.s; pc = e; parts = part }
  where
    part : (p : Part) → IsTrue (k p) → held p (record r { pc = m }) ≡ held p (record q { pc = n })
    part part_a known = h.parts part_a known
    part p known = h.parts p known

a-match : (k : Part → Bool) (r q : Registers) (m n : ℕ) → MatchAt k r q → m ≡ n
    → MatchAt k (record r { a = m }) (record q { a = n })
a-match k r q m n h e = record { s = h.s; pc = h.pc; parts = part }
  where
    part : (p : Part) → IsTrue (k p) → held p (record r { a = m }) ≡ held p (record q { a = n })
    part part_a known = e
    part p known = h.parts p known

module _ {M N : Type 0} (R : M → N → Type 0) (seen : ℕ → Bool) (left : Access M) (right : Access N) (sim : IsSeen R seen left right) where
  byte-near : (k : Part → Bool) (s : State M) (t : State N) (a b : ℕ) → Near k R s t → a ≡ b → IsTrue (seen a)
      → left.byte_at s.memory a ≡ right.byte_at t.memory b
  byte-near k s t a b h e shown = sim.same_byte s.memory t.memory a h.memory shown ∙ ap (λ j. right.byte_at t.memory j) e

  registers-near : (k l : Part → Bool) (s : State M) (t : State N) (q r : Registers) → Near k R s t → MatchAt l q r
      → Near l R (with_registers q s) (with_registers r t)
  registers-near k l s t q r h e = record { registers = e; cycles = h.cycles; memory = h.memory }

  pc-near : (k : Part → Bool) (s : State M) (t : State N) (p q : ℕ) → Near k R s t → p ≡ q → Near k R (with_pc p s) (with_pc q t)
  pc-near k s t p q h e = record { registers = pc-match k s.registers t.registers p q h.registers e; cycles = h.cycles; memory = h.memory }

  s-near : (k : Part → Bool) (s : State M) (t : State N) (p q : ℕ) → Near k R s t → p ≡ q → Near k R (with_s p s) (with_s q t)
  s-near k s t p q h e = record { registers = s-match k p q s.registers t.registers e h.registers; cycles = h.cycles; memory = h.memory }

  read-near : (k : Part → Bool) (s : State M) (t : State N) (a b : ℕ) → Near k R s t → a ≡ b
      → Near k R (after_read left a s) (after_read right b t)
  read-near k s t a b h e = record {
    registers = h.registers;
    cycles = h.cycles;
    memory = let P : ℕ → Type 0 = λ j. R (left.after_read s.memory a) (right.after_read t.memory j) in
        subst P e (sim.kept_by_read s.memory t.memory a h.memory);
  }

  write-near : (k : Part → Bool) (s : State M) (t : State N) (a b v w : ℕ) → Near k R s t → a ≡ b → v ≡ w
      → Near k R (after_write left a v s) (after_write right b w t)
  write-near k s t a b v w h e f = record {
    registers = h.registers;
    cycles = h.cycles;
    memory = let P : ℕ → Type 0 = λ j. R (left.after_write s.memory a v) (right.after_write t.memory j w) in
        let Q : ℕ → Type 0 = λ u. R (left.after_write s.memory a v) (right.after_write t.memory a u) in
        subst P e (subst Q f (sim.kept_by_write s.memory t.memory a v h.memory));
  }

  pushed-near : (k : Part → Bool) (s : State M) (t : State N) (v w : ℕ) → Near k R s t → v ≡ w
      → Near k R (pushed left v s) (pushed right w t)
  pushed-near k s t v w h e =
      s-near k (after_write left (stack_address s.registers) v s) (after_write right (stack_address t.registers) w t) _ _
      (write-near k s t _ _ v w h (ap (λ n. 0x100 + n) h.registers.s) e)
      (ap (λ n. (n + 255) % 256) h.registers.s)

  pulled-near : (k : Part → Bool) (s : State M) (t : State N) → Near k R s t → IsTrue (seen (pull_address s.registers.s 1))
      → pulled left s ≡ pulled right t
  pulled-near k s t h shown = byte-near k s t _ _ h (ap (λ n. 0x100 + (n + 1) % 256) h.registers.s) shown

  after_pull-near : (k : Part → Bool) (s : State M) (t : State N) → Near k R s t
      → Near k R (after_pull left s) (after_pull right t)
  after_pull-near k s t h =
      s-near k (after_read left (0x100 + s_after_pull s.registers) s) (after_read right (0x100 + s_after_pull t.registers) t) _ _
      (read-near k s t _ _ h (ap (λ n. 0x100 + (n + 1) % 256) h.registers.s))
      (ap (λ n. (n + 1) % 256) h.registers.s)

  pulled_word-near : (k : Part → Bool) (s : State M) (t : State N) → Near k R s t
      → IsTrue (seen (pull_address s.registers.s 1)) → IsTrue (seen (pull_address s.registers.s 2))
      → pulled_word left s ≡ pulled_word right t
  pulled_word-near k s t h low high =
      ap₂ (λ low high. low + 256 * high) (pulled-near k s t h low)
      (pulled-near k (after_pull left s) (after_pull right t) (after_pull-near k s t h) (subst (λ a. IsTrue (seen a)) (second_pull s.registers.s) high))

  two_pulls-near : (k : Part → Bool) (s : State M) (t : State N) → Near k R s t
      → Near k R (after_pull left (after_pull left s)) (after_pull right (after_pull right t))
  two_pulls-near k s t h = after_pull-near k _ _ (after_pull-near k s t h)

  returned-near : (k : Part → Bool) (s : State M) (t : State N) → Near k R s t → IsTrue (seen (pull_address s.registers.s 1))
      → IsTrue (seen (pull_address s.registers.s 2))
      → Near k R (returned left s) (returned right t)
  unfolding returned
  returned-near k s t h low high =
      pc-near k _ _ _ _ (two_pulls-near k s t h) (ap (λ word. (word + 1) % 65536) (pulled_word-near k s t h low high))

  flags-near : (k : Part → Bool) (s : State M) (t : State N) (f g : StatusFlags) → Near k R s t → f ≡ g
      → Near (with_parts all_flags k) R (record s { registers = record s.registers { flags = f } }) (record t { registers = record t.registers { flags = g } })
  flags-near k s t f g h e = record { registers = flags-match k f g s.registers t.registers e h.registers; cycles = h.cycles; memory = h.memory }

  returned_from_interrupt-near : (k : Part → Bool) (s : State M) (t : State N) → Near k R s t
      → IsTrue (seen (pull_address s.registers.s 1))
      → IsTrue (seen (pull_address s.registers.s 2)) → IsTrue (seen (pull_address s.registers.s 3))
      → Near (with_parts all_flags k) R (returned_from_interrupt left s) (returned_from_interrupt right t)
  unfolding returned_from_interrupt
  returned_from_interrupt-near k s t h first low high =
      let rest : Near k R (after_pull left s) (after_pull right t) = after_pull-near k s t h in
      pc-near (with_parts all_flags k) _ _ _ _
      (flags-near k _ _ _ _ (two_pulls-near k _ _ rest) (ap (λ byte. flags_of_byte byte) (pulled-near k s t h first)))
      (pulled_word-near k _ _ rest (subst (λ a. IsTrue (seen a)) (second_pull s.registers.s) low)
      (subst (λ a. IsTrue (seen a)) (third_pull s.registers.s) high))

  called-near : (k : Part → Bool) (s : State M) (t : State N) (a b : ℕ) → Near k R s t → a ≡ b
      → Near k R (called left a s) (called right b t)
  unfolding called
  called-near k s t a b h e =
      pc-near k _ _ _ _
      (pushed-near k _ _ _ _
      (pushed-near k s t _ _ h (ap (λ n. (n + 65535) % 65536 / 256) h.registers.pc))
      (ap (λ n. (n + 65535) % 65536 % 256) h.registers.pc))
      e

  jumped_through-near : (k : Part → Bool) (s : State M) (t : State N) (a : ℕ) → Near k R s t → IsTrue (seen a)
      → IsTrue (seen (256 * (a / 256) + (a + 1) % 256))
      → Near k R (jumped_through left a s) (jumped_through right a t)
  unfolding jumped_through
  jumped_through-near k s t a h low high =
      let between : Near k R (after_read left a s) (after_read right a t) = read-near k s t a a h refl in
      pc-near k _ _ _ _ (read-near k _ _ _ _ between refl)
      (ap₂ (λ low high. low + 256 * high) (byte-near k s t a a h refl low) (byte-near k _ _ _ _ between refl high))

  -- the part that the place of an operand uses
  abbrev place_needs : Place → List Part
  place_needs accumulator = part_a ∷ []
  place_needs _ = []

  operand_byte-near : (k : Part → Bool) (s : State M) (t : State N) (place : Place) → Near k R s t
      → Knows k (place_needs place) → Knows seen (place_reads place)
      → operand_byte left place s ≡ operand_byte right place t
  operand_byte-near k s t accumulator h known shown = h.registers.parts part_a known.0
  operand_byte-near k s t (address at) h known shown = byte-near k s t at at h refl shown.0
  operand_byte-near k s t place h known shown = refl

  memory_read-near : (m : M) (n : N) (place : Place) → R m n → R (memory_read left place m) (memory_read right place n)
  memory_read-near m n (address at) h = sim.kept_by_read m n at h
  memory_read-near m n place h = h

  memory_put-same : (m : M) (n : N) (place : Place) (v : ℕ) → R m n → R (memory_put left place v m) (memory_put right place v n)
  memory_put-same m n (address at) v h = sim.kept_by_write m n at v h
  memory_put-same m n place v h = h

  memory_put-near : (m : M) (n : N) (place : Place) (v w : ℕ) → R m n → v ≡ w
      → R (memory_put left place v m) (memory_put right place w n)
  memory_put-near m n place v w h e =
      let P : ℕ → Type 0 = λ u. R (memory_put left place v m) (memory_put right place u n) in
      subst P e (memory_put-same m n place v h)

  put-near : (l : Part → Bool) (place : Place) (r q : Registers) (f g : Replacement) → f.byte ≡ g.byte
      → MatchAt l (record r { flags = f.flags }) (record q { flags = g.flags })
      → MatchAt l (replaced_registers place f r) (replaced_registers place g q)
  put-near l accumulator r q f g e h = a-match l (record r { flags = f.flags }) (record q { flags = g.flags }) f.byte g.byte h e
  put-near l place r q f g e h = h

  taken-near : (k l : Part → Bool) (s : State M) (t : State N) (place : Place) (change : ℕ → Registers → Registers)
      → Near k R s t → Knows k (place_needs place)
      → Knows seen (place_reads place) → Steady k l (takes change)
      → Near l R (taken left place change s) (taken right place change t)
  taken-near k l s t place change h known shown does = record {
    registers = let P : ℕ → Type 0 = λ b. MatchAt l (change (operand_byte left place s) s.registers) (change b t.registers) in
        subst P (operand_byte-near k s t place h known shown) (does (operand_byte left place s) s.registers t.registers h.registers);
    cycles = h.cycles;
    memory = memory_read-near s.memory t.memory place h.memory;
  }

  replaced-near : (k l : Part → Bool) (s : State M) (t : State N) (place : Place) (change : ℕ → StatusFlags → Replacement)
      → Near k R s t → Knows k (place_needs place)
      → Knows seen (place_reads place) → Steady k l (replaces change)
      → Near l R (replaced left place change s) (replaced right place change t)
  replaced-near k l s t place change h known shown does =
      let byte : operand_byte left place s ≡ operand_byte right place t = operand_byte-near k s t place h known shown in
      let P : ℕ → Type 0 = λ b. ((change (operand_byte left place s) s.registers.flags).byte ≡ (change b t.registers.flags).byte)
      × MatchAt l (record s.registers { flags = (change (operand_byte left place s) s.registers.flags).flags }) (record t.registers { flags = (change b t.registers.flags).flags }) in
      let both : P (operand_byte right place t) =
      subst P byte (does (operand_byte left place s) s.registers t.registers h.registers) in
      record {
        registers = put-near l place s.registers t.registers _ _ both.0 both.1;
        cycles = h.cycles;
        memory = memory_put-near _ _ place _ _ (memory_read-near s.memory t.memory place h.memory) both.0;
      }

  kept-near : (k l : Part → Bool) (s : State M) (t : State N) → Near k R s t
      → ((r q : Registers) → MatchAt k r q → MatchAt l r q) → Near l R s t
  kept-near k l s t h more = record { registers = more s.registers t.registers h.registers; cycles = h.cycles; memory = h.memory }

  stored-near : (k : Part → Bool) (s : State M) (t : State N) (place : Place) (v w : ℕ) → Near k R s t → v ≡ w
      → Near k R (stored left place v s) (stored right place w t)
  stored-near k s t place v w h e =
      record { registers = h.registers; cycles = h.cycles; memory = memory_put-near s.memory t.memory place v w h.memory e }

  jumped-near : (k : Part → Bool) (s : State M) (t : State N) (place : Place) → Near k R s t → Knows seen (jump_reads place)
      → Near k R (jumped left place s) (jumped right place t)
  jumped-near k s t (address at) h shown = pc-near k s t at at h refl
  jumped-near k s t (pointer at) h shown = jumped_through-near k s t at h shown.0 shown.1.0
  jumped-near k s t place h shown = h

  called_place-near : (k : Part → Bool) (s : State M) (t : State N) (place : Place) → Near k R s t
      → Near k R (called_place left place s) (called_place right place t)
  called_place-near k s t (address at) h = called-near k s t at at h refl
  called_place-near k s t place h = h

  branched_to-near : (k : Part → Bool) (s : State M) (t : State N) (place : Place) → Near k R s t
      → Near k R (branched_to place s) (branched_to place t)
  branched_to-near k s t place h = pc-near k s t _ _ h (ap (λ n. pc_at_target place n) h.registers.pc)

  branched-near : (k : Part → Bool) (s : State M) (t : State N) (place : Place) (b c : Bool) → Near k R s t → b ≡ c
      → Near k R (if b then branched_to place s else s) (if c then branched_to place t else t)
  branched-near k s t place b c h e =
      let P : Bool → Type 0 = λ v. Near k R (if b then branched_to place s else s) (if v then branched_to place t else t) in
      subst P e (same b)
    where
      same : (b : Bool) → Near k R (if b then branched_to place s else s) (if b then branched_to place t else t)
      same true = branched_to-near k s t place h
      same false = h

  effect-near : (k l : Part → Bool) (s : State M) (t : State N) (place : Place) (effect : Effect) → Near k R s t
      → Knows k (place_needs place)
      → Knows seen (effect_reads effect place s.registers.s) → Steady k l effect
      → Near l R (after_effect left place effect s) (after_effect right place effect t)
  unfolding after_effect
  effect-near k l s t place (sets change) h known shown does = registers-near k l s t _ _ h (does s.registers t.registers h.registers)
  effect-near k l s t place (takes change) h known shown does = taken-near k l s t place change h known shown does
  effect-near k l s t place (replaces change) h known shown does = replaced-near k l s t place change h known shown does
  effect-near k l s t place (stores byte) h known shown does =
      kept-near k l _ _ (stored-near k s t place _ _ h (does.0 s.registers t.registers h.registers)) does.1
  effect-near k l s t place (pushes byte) h known shown does =
      kept-near k l _ _ (pushed-near k s t _ _ h (does.0 s.registers t.registers h.registers)) does.1
  effect-near k l s t place (pulls change) h known shown does =
      let rest : Near k R (after_pull left s) (after_pull right t) = after_pull-near k s t h in
      let P : ℕ → Type 0 = λ b. MatchAt l (change (pulled left s) (after_pull left s).registers) (change b (after_pull right t).registers) in
      registers-near k l _ _ _ _ rest (subst P (pulled-near k s t h shown.0) (does (pulled left s) _ _ rest.registers))
  effect-near k l s t place (branches test) h known shown does =
      kept-near k l _ _ (branched-near k s t place _ _ h (does.0 s.registers t.registers h.registers)) does.1
  effect-near k l s t place jumps h known shown does = kept-near k l _ _ (jumped-near k s t place h shown) does
  effect-near k l s t place calls h known shown does = kept-near k l _ _ (called_place-near k s t place h) does
  effect-near k l s t place returns h known shown does = kept-near k l _ _ (returned-near k s t h shown.0 shown.1.0) does
  effect-near k l s t place returns_from_interrupt h known shown does =
      kept-near (with_parts all_flags k) l _ _ (returned_from_interrupt-near k s t h shown.0 shown.1.0 shown.1.1.0) does
  effect-near k l s t place breaks h known shown does = kept-near k l s t h does

  zero_page_word-near : (k : Part → Bool) (s : State M) (t : State N) (a b : ℕ) → Near k R s t → a ≡ b → IsTrue (seen a)
      → IsTrue (seen ((a + 1) % 256))
      → zero_page_word left s.memory a ≡ zero_page_word right t.memory b
  zero_page_word-near k s t a b h e low high =
      ap₂ (λ low high. low + 256 * high) (byte-near k s t a b h e low) (byte-near k s t _ _ h (ap (λ j. (j + 1) % 256) e) high)

  base-near : (k : Part → Bool) (s : State M) (t : State N) (mode : Mode) (value : ℕ) → Near k R s t
      → Knows seen (pointer_reads mode value s.registers)
      → Knows k (mode_needs mode) → base_address left s.memory mode value ≡ base_address right t.memory mode value
  base-near k s t IndirectIndexed value h shown known = zero_page_word-near k s t value value h refl shown.0 shown.1.0
  base-near k s t mode value h shown known = refl

  pub place-near : (k : Part → Bool) (s : State M) (t : State N) (mode : Mode) (value : ℕ) → Near k R s t
      → Knows seen (pointer_reads mode value s.registers)
      → Knows k (mode_needs mode) → place_of left s.memory s.registers mode value ≡ place_of right t.memory t.registers mode value
  place-near k s t ZeroPageX value h shown known = ap (λ x. address ((value + x) % 256)) (h.registers.parts part_x known.0)
  place-near k s t ZeroPageY value h shown known = ap (λ y. address ((value + y) % 256)) (h.registers.parts part_y known.0)
  place-near k s t AbsoluteX value h shown known = ap (λ x. address ((value + x) % 65536)) (h.registers.parts part_x known.0)
  place-near k s t AbsoluteY value h shown known = ap (λ y. address ((value + y) % 65536)) (h.registers.parts part_y known.0)
  place-near k s t IndexedIndirect value h shown known =
      ap (λ a. address a) (zero_page_word-near k s t _ _ h (ap (λ x. (value + x) % 256) (h.registers.parts part_x known.0)) shown.0 shown.1.0)
  place-near k s t IndirectIndexed value h shown known =
      ap₂ (λ word y. address ((word + y) % 65536)) (zero_page_word-near k s t value value h refl shown.0 shown.1.0) (h.registers.parts part_y known.0)
  place-near k s t mode value h shown known = refl

  place_known : (k : Part → Bool) (s : State M) (mode : Mode) (value : ℕ) → Knows k (mode_needs mode)
      → Knows k (place_needs (place_of left s.memory s.registers mode value))
  place_known k s Accumulator value known = known
  place_known k s mode value known = tt

  branch-near : (k l : Part → Bool) (s : State M) (t : State N) (effect : Effect) (m n : ℕ) (p q : Place) → Near k R s t
      → Steady k l effect → m ≡ n → p ≡ q
      → branch_cycles effect s.registers.flags m p ≡ branch_cycles effect t.registers.flags n q
  branch-near k l s t (branches test) m n p q h does e f =
      λ i. if does.0 s.registers t.registers h.registers i then 1 + one_if (crosses_page (e i) (f i)) else 0
  branch-near k l s t effect m n p q h does e f = refl

  -- each instruction that reads only seen addresses and uses only known parts
  pub performed-near : (k : Part → Bool) (row : Row) (value : ℕ) (s : State M) (t : State N) → Near k R s t
      → Knows k (needs row.mnemonic) → Knows k (mode_needs row.mode) → Knows seen (reads_of left row value s)
      → Near (with_parts (sets_parts row.mnemonic) k) R (performed left row value s) (performed right row value t)
  unfolding performed reads_of
  performed-near k row value s t h known mode_known shown =
      let both : Knows seen (pointer_reads row.mode value s.registers)
      × Knows seen (effect_reads (effect_of row.mnemonic) (place_of left s.memory s.registers row.mode value) s.registers.s) =
      knows-append seen _ _ shown in
      let does : Steady k (with_parts (sets_parts row.mnemonic) k) (effect_of row.mnemonic) = steady row.mnemonic k known in
      let place : place_of left s.memory s.registers row.mode value ≡ place_of right t.memory t.registers row.mode value =
      place-near k s t row.mode value h both.0 mode_known in
      let base : base_address left s.memory row.mode value ≡ base_address right t.memory row.mode value =
      base-near k s t row.mode value h both.0 mode_known in
      let next : next_address row s.registers.pc ≡ next_address row t.registers.pc =
      ap (λ n. next_address row n) h.registers.pc in
      let crossing : row.crosses && crosses_page (base_address left s.memory row.mode value) (place_of left s.memory s.registers row.mode value)
      ≡ row.crosses && crosses_page (base_address right t.memory row.mode value) (place_of right t.memory t.registers row.mode value) =
      ap₂ (λ b p. row.crosses && crosses_page b p) base place in
      let branch : branch_cycles (effect_of row.mnemonic) s.registers.flags (next_address row s.registers.pc) (place_of left s.memory s.registers row.mode value)
      ≡ branch_cycles (effect_of row.mnemonic) t.registers.flags (next_address row t.registers.pc) (place_of right t.memory t.registers row.mode value) =
      branch-near k (with_parts (sets_parts row.mnemonic) k) s t (effect_of row.mnemonic) _ _ _ _ h does next place in
      let P : Place → Type 0 = λ p. Near (with_parts (sets_parts row.mnemonic) k) R
      (after_effect left (place_of left s.memory s.registers row.mode value) (effect_of row.mnemonic) (with_pc (next_address row s.registers.pc) s))
      (after_effect right p (effect_of row.mnemonic) (with_pc (next_address row t.registers.pc) t)) in
      let done : P (place_of right t.memory t.registers row.mode value) = subst P place
      (effect-near k (with_parts (sets_parts row.mnemonic) k) _ _ (place_of left s.memory s.registers row.mode value) (effect_of row.mnemonic) (pc-near k s t _ _ h next)
      (place_known k s row.mode value mode_known) both.1 does) in
      record {
        registers = done.registers;
        cycles = λ i. h.cycles i + (row.cycles + one_if (crossing i) + branch i);
        memory = done.memory;
      }

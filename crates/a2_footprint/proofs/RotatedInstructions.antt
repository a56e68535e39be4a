-- The effect, in a world with a rotated stack, of an instruction that uses the stack only through S.
use Rattle.std.specs.Prelude.{◌≡◌, ◌<◌, ℕ, ◌+◌, ◌*◌, ◌/◌, ◌%◌, Bool, true, false, ◌&&◌, ◌||◌, nat_lt, if◌then◌else◌, [], ◌∷◌, refl}
use Rattle.std.specs.List.{list_any}
use Rattle.std.proofs.Common.{sym, ap, ap₂, ◌∙◌, subst, arith, true≢false}
use Rattle.std.proofs.lemmas.Bool.Decides.{nat_tests}
use Rattle.a2_opcode.specs.declared.Mnemonic.{Mnemonic}
use Rattle.a2_opcode.specs.declared.Mnemonic.TheVariants.{Tsx, Txs}
use Rattle.a2_opcode.specs.declared.Mode.{Mode}
use Rattle.a2_opcode.specs.declared.Mode.TheVariants.{IndexedIndirect, IndirectIndexed}
use Rattle.a2_bus.specs.Devices.{device_byte, after_access}
use Rattle.a2_bus.specs.Memory.{Memory, memory_access, ram_end}
use Rattle.a2_effect.specs.Registers.{Registers, StatusFlags, flags_of_byte, one_if}
use Rattle.a2_effect.specs.Place.{Place, accumulator, address, pointer, place_of, base_address, zero_page_word, crosses_page}
use Rattle.a2_effect.specs.Effect.{Effect, Replacement, sets, takes, replaces, stores, pushes, pulls, branches, jumps, calls, returns, returns_from_interrupt, breaks, effect_of}
use Rattle.a2_effect.specs.Instruction.{with_pc, with_s, with_registers, after_read, after_write, stack_address, pushed, s_after_pull, pulled, after_pull, pulled_word, returned, returned_from_interrupt, called, jumped_through, operand_byte, memory_read, memory_put, replaced_registers, taken, replaced, stored, jumped, pc_at_target, branched_to, called_place, after_effect, branch_cycles, next_address, performed}
use Rattle.a2_services.specs.World.{World}
use Rattle.a2_machine.specs.Meaning.{Decoded}
use Rattle.a2_footprint.specs.InstructionReads.{jump_reads, place_reads, pointer_reads, pull_address}
use Rattle.a2_footprint.specs.RotatedStack.{in_stack, rotated_address, rotated_memory, IsRotated, IsOffStack, operand_uses, moves_s}
use Rattle.a2_footprint.proofs.RotatedMemory.{not_in_stack, pulled_place, turned_place, turned_byte, turned_store}

-- Registers

-- equal except for S, which is moved
record IsMoved (turn : ℕ) (r q : Registers) : Type 0 where
  same : r ≡ record q { s = r.s }
  low : q.s < 256
  s : (q.s + turn) % 256 ≡ r.s

moved : (turn : ℕ) (s t : World) → IsRotated turn s t → IsMoved turn s.registers t.registers
moved turn s t h = record { same = h.registers; low = h.low; s = h.s }

abbrev at_s : ℕ → Registers → Registers
at_s n registers = record registers { s = n }

-- a change of the registers that keeps S and does not use it
abbrev Spares : (Registers → Registers) → Type 0
Spares change = (q : Registers) (n : ℕ) → (change (at_s n q) ≡ at_s n (change q)) × ((change q).s ≡ q.s)

changed : (turn : ℕ) (change : Registers → Registers) (r q : Registers) → IsMoved turn r q → Spares change
    → IsMoved turn (change r) (change q)
changed turn change r q h spares = record {
  same = ap change h.same ∙ (spares q r.s).0 ∙ ap (λ n. at_s n (change q)) (sym (spares r 0).1);
  low = subst (λ n. n < 256) (sym (spares q 0).1) h.low;
  s = ap (λ n. (n + turn) % 256) (spares q 0).1 ∙ h.s ∙ sym (spares r 0).1;
}

-- the registers that an effect leaves, given a byte that it reads, and the byte that it stores
abbrev makes : Effect → ℕ → Registers → Registers
makes (sets change) byte registers = change registers
makes (takes change) byte registers = change byte registers
makes (pulls change) byte registers = change byte registers
makes _ byte registers = registers

abbrev gives : Effect → Registers → ℕ
gives (stores byte) registers = byte registers
gives (pushes byte) registers = byte registers
gives _ registers = 0

-- it does not use S, and keeps it
abbrev SparesS : Effect → Type 0
SparesS effect =
    (byte : ℕ) (q : Registers) (n : ℕ) → (makes effect byte (at_s n q) ≡ at_s n (makes effect byte q))
    × ((makes effect byte q).s ≡ q.s) × (gives effect (at_s n q) ≡ gives effect q)

spares_s : (mnemonic : Mnemonic) → moves_s mnemonic ≡ false → SparesS (effect_of mnemonic)
unfolding effect_of
spares_s Tsx bad = absurd (true≢false bad)
spares_s Txs bad = absurd (true≢false bad)
spares_s mnemonic _ = λ byte q n. (refl, refl, refl)

made : (effect : Effect) → SparesS effect → (byte : ℕ) → Spares (makes effect byte)
made effect spares byte = λ q n. ((spares byte q n).0, (spares byte q n).1)

given : (turn : ℕ) (effect : Effect) (r q : Registers) → SparesS effect → IsMoved turn r q → gives effect r ≡ gives effect q
given turn effect r q spares h = ap (λ k. gives effect k) h.same ∙ (spares 0 q r.s).2

put : (place : Place) (result : Replacement) → Spares (replaced_registers place result)
put accumulator result = λ q n. (refl, refl)
put place result = λ q n. (refl, refl)

-- Memory

-- a choice that depends on whether an address is in RAM
sided : {X : Type 0} (turn b : ℕ) (shape : X → X) (p q r w : X) → p ≡ shape r → (rotated_address turn b ≡ b → q ≡ shape w)
    → (if nat_lt b ram_end then p else q) ≡ shape (if nat_lt (rotated_address turn b) ram_end then r else w)
sided turn b shape p q r w ram device = go (nat_lt b ram_end) refl
  where
    below : (stack : Bool) → in_stack b ≡ stack → nat_lt b ram_end ≡ true → nat_lt (rotated_address turn b) ram_end ≡ true
    below true is _ =
        ap (λ (v : Bool). nat_lt (if v then 0x100 + (b + turn) % 256 else b) ram_end) is ∙ grind (arith, nat_tests)
    below false is low = ap (λ a. nat_lt a ram_end) (not_in_stack turn b is) ∙ low

    go : (low : Bool) → nat_lt b ram_end ≡ low → (if low then p else q) ≡ shape (if nat_lt (rotated_address turn b) ram_end then r else w)
    go true is = ram ∙ ap (λ v. shape (if v then r else w)) (sym (below (in_stack b) refl is))
    go false is =
        let out : in_stack b ≡ false = grind (arith, nat_tests, is) in
        device (not_in_stack turn b out) ∙ ap (λ v. shape (if v then r else w)) (sym (ap (λ a. nat_lt a ram_end) (not_in_stack turn b out) ∙ is))

turned_at : (turn : ℕ) (m : Memory) (b : ℕ) → memory_access.byte_at (rotated_memory turn m) b ≡ memory_access.byte_at m (rotated_address turn b)
unfolding memory_access
turned_at turn m b = sided turn b (λ n. n) _ _ _ _ (turned_byte turn m b) (λ stays. ap (λ a. device_byte m.devices a) (sym stays))

turned_read : (turn : ℕ) (m : Memory) (b : ℕ)
    → memory_access.after_read (rotated_memory turn m) b ≡ rotated_memory turn (memory_access.after_read m (rotated_address turn b))
unfolding memory_access
turned_read turn m b =
    sided turn b (rotated_memory turn) _ _ m (record m { devices = after_access m.devices (rotated_address turn b) }) refl
    (λ stays. ap (λ a. let n : Memory = record m { devices = after_access m.devices a } in rotated_memory turn n) (sym stays))

turned_write : (turn : ℕ) (m : Memory) (b v : ℕ)
    → memory_access.after_write (rotated_memory turn m) b v ≡ rotated_memory turn (memory_access.after_write m (rotated_address turn b) v)
unfolding memory_access
turned_write turn m b v =
    sided turn b (rotated_memory turn) _ _ _ (record m { devices = after_access m.devices (rotated_address turn b) }) (turned_store turn m b v)
    (λ stays. ap (λ a. let n : Memory = record m { devices = after_access m.devices a } in rotated_memory turn n) (sym stays))

abbrev IsShifted : ℕ → Memory → Memory → Type 0
IsShifted turn m n = n ≡ rotated_memory turn m

byte_turned : (turn : ℕ) (m n : Memory) (a b : ℕ) → IsShifted turn m n → rotated_address turn b ≡ a
    → memory_access.byte_at m a ≡ memory_access.byte_at n b
byte_turned turn m n a b h e =
    sym (ap (λ k. memory_access.byte_at k b) h ∙ turned_at turn m b ∙ ap (λ j. memory_access.byte_at m j) e)

read_turned : (turn : ℕ) (m n : Memory) (a b : ℕ) → IsShifted turn m n → rotated_address turn b ≡ a
    → IsShifted turn (memory_access.after_read m a) (memory_access.after_read n b)
read_turned turn m n a b h e =
    ap (λ k. memory_access.after_read k b) h ∙ turned_read turn m b ∙ ap (λ j. rotated_memory turn (memory_access.after_read m j)) e

write_turned : (turn : ℕ) (m n : Memory) (a b v w : ℕ) → IsShifted turn m n → rotated_address turn b ≡ a → v ≡ w
    → IsShifted turn (memory_access.after_write m a v) (memory_access.after_write n b w)
write_turned turn m n a b v w h e f =
    ap₂ (λ k u. memory_access.after_write k b u) h (sym f) ∙ turned_write turn m b v
    ∙ ap (λ j. rotated_memory turn (memory_access.after_write m j v)) e

-- if no item of a list is in the stack, then neither the first item nor any other is
pub off_first : (a : ℕ) (rest : Bool) → in_stack a || rest ≡ false → (in_stack a ≡ false) × (rest ≡ false)
off_first a rest off = go (in_stack a) off
  where
    go : (first : Bool) → first || rest ≡ false → (first ≡ false) × (rest ≡ false)
    go true bad = absurd (true≢false bad)
    go false off = (refl, off)

stays : (turn a : ℕ) (rest : Bool) → in_stack a || rest ≡ false → rotated_address turn a ≡ a
stays turn a rest off = not_in_stack turn a (off_first a rest off).0

-- States

module _ (turn : ℕ) where
  registers-turned : (s t : World) (q r : Registers) → IsRotated turn s t → IsMoved turn q r
      → IsRotated turn (with_registers q s) (with_registers r t)
  registers-turned s t q r h e = record { registers = e.same; low = e.low; s = e.s; memory = h.memory; cycles = h.cycles }

  memory-turned : (s t : World) (m n : Memory) → IsRotated turn s t → IsShifted turn m n
      → IsRotated turn (record s { memory = m }) (record t { memory = n })
  memory-turned s t m n h e = record { registers = h.registers; low = h.low; s = h.s; memory = e; cycles = h.cycles }

  pc-turned : (s t : World) (p q : ℕ) → IsRotated turn s t → p ≡ q → IsRotated turn (with_pc p s) (with_pc q t)
  pc-turned s t p q h e = record {
    registers = ap₂ (λ r pc. let k : Registers = record r { pc = pc } in k) h.registers e;
    low = h.low;
    s = h.s;
    memory = h.memory;
    cycles = h.cycles;
  }

  s-turned : (s t : World) (p q : ℕ) → IsRotated turn s t → q < 256 → (q + turn) % 256 ≡ p → IsRotated turn (with_s p s) (with_s q t)
  s-turned s t p q h low e = record {
    registers = ap (λ r. at_s p r) h.registers;
    low = low;
    s = e;
    memory = h.memory;
    cycles = h.cycles;
  }

  flags-turned : (s t : World) (f g : StatusFlags) → IsRotated turn s t → f ≡ g
      → IsRotated turn (record s { registers = record s.registers { flags = f } }) (record t { registers = record t.registers { flags = g } })
  flags-turned s t f g h e = record {
    registers = ap₂ (λ r flags. let k : Registers = record r { flags = flags } in k) h.registers e;
    low = h.low;
    s = h.s;
    memory = h.memory;
    cycles = h.cycles;
  }

  pub pc-same : (s t : World) → IsRotated turn s t → s.registers.pc ≡ t.registers.pc
  pc-same s t h = ap (λ r. r.pc) h.registers

  flags-same : (s t : World) → IsRotated turn s t → s.registers.flags ≡ t.registers.flags
  flags-same s t h = ap (λ r. r.flags) h.registers

  -- the stack

  pushed-turned : (s t : World) (v w : ℕ) → IsRotated turn s t → v ≡ w
      → IsRotated turn (pushed memory_access v s) (pushed memory_access w t)
  pushed-turned s t v w h e =
      let at : rotated_address turn (stack_address t.registers) ≡ stack_address s.registers =
      turned_place turn t.registers.s h.low ∙ ap (λ n. 0x100 + n) h.s in
      let same : (t.registers.s + turn) % 256 ≡ s.registers.s = h.s in
      let next : ((t.registers.s + 255) % 256 + turn) % 256 ≡ (s.registers.s + 255) % 256 = omega (arith, same) in
      s-turned (after_write memory_access (stack_address s.registers) v s) (after_write memory_access (stack_address t.registers) w t) _ _
      (memory-turned s t _ _ h (write_turned turn s.memory t.memory _ _ v w h.memory at e)) (omega arith) next

  raised : (s t : World) → IsRotated turn s t → (s_after_pull t.registers + turn) % 256 ≡ s_after_pull s.registers
  raised s t h = let same : (t.registers.s + turn) % 256 ≡ s.registers.s = h.s in omega (arith, same)

  pull_place : (s t : World) → IsRotated turn s t → rotated_address turn (0x100 + s_after_pull t.registers) ≡ 0x100 + s_after_pull s.registers
  pull_place s t h = pulled_place turn t.registers.s 1 ∙ ap (λ n. pull_address n 1) h.s

  pulled-turned : (s t : World) → IsRotated turn s t → pulled memory_access s ≡ pulled memory_access t
  pulled-turned s t h = byte_turned turn s.memory t.memory _ _ h.memory (pull_place s t h)

  after_pull-turned : (s t : World) → IsRotated turn s t → IsRotated turn (after_pull memory_access s) (after_pull memory_access t)
  after_pull-turned s t h =
      s-turned (after_read memory_access (0x100 + s_after_pull s.registers) s) (after_read memory_access (0x100 + s_after_pull t.registers) t) _ _
      (memory-turned s t _ _ h (read_turned turn s.memory t.memory _ _ h.memory (pull_place s t h))) (omega arith) (raised s t h)

  pulled_word-turned : (s t : World) → IsRotated turn s t → pulled_word memory_access s ≡ pulled_word memory_access t
  pulled_word-turned s t h =
      ap₂ (λ low high. low + 256 * high) (pulled-turned s t h) (pulled-turned _ _ (after_pull-turned s t h))

  two_pulls-turned : (s t : World) → IsRotated turn s t
      → IsRotated turn (after_pull memory_access (after_pull memory_access s)) (after_pull memory_access (after_pull memory_access t))
  two_pulls-turned s t h = after_pull-turned _ _ (after_pull-turned s t h)

  returned-turned : (s t : World) → IsRotated turn s t → IsRotated turn (returned memory_access s) (returned memory_access t)
  unfolding returned
  returned-turned s t h =
      pc-turned _ _ _ _ (two_pulls-turned s t h) (ap (λ word. (word + 1) % 65536) (pulled_word-turned s t h))

  returned_from_interrupt-turned : (s t : World) → IsRotated turn s t
      → IsRotated turn (returned_from_interrupt memory_access s) (returned_from_interrupt memory_access t)
  unfolding returned_from_interrupt
  returned_from_interrupt-turned s t h =
      let rest : IsRotated turn (after_pull memory_access s) (after_pull memory_access t) = after_pull-turned s t h in
      pc-turned _ _ _ _
      (flags-turned _ _ _ _ (two_pulls-turned _ _ rest) (ap (λ byte. flags_of_byte byte) (pulled-turned s t h)))
      (pulled_word-turned _ _ rest)

  called-turned : (s t : World) (a : ℕ) → IsRotated turn s t → IsRotated turn (called memory_access a s) (called memory_access a t)
  unfolding called
  called-turned s t a h =
      pc-turned _ _ a a
      (pushed-turned _ _ _ _
      (pushed-turned s t _ _ h (ap (λ n. (n + 65535) % 65536 / 256) (pc-same s t h)))
      (ap (λ n. (n + 65535) % 65536 % 256) (pc-same s t h)))
      refl

  -- an operand outside the stack

  operand_byte-turned : (s t : World) (place : Place) → IsRotated turn s t → list_any in_stack (place_reads place) ≡ false
      → operand_byte memory_access place s ≡ operand_byte memory_access place t
  operand_byte-turned s t accumulator h off = ap (λ r. r.a) h.registers
  operand_byte-turned s t (address at) h off = byte_turned turn s.memory t.memory at at h.memory (stays turn at _ off)
  operand_byte-turned s t place h off = refl

  memory_read-turned : (m n : Memory) (place : Place) → IsShifted turn m n → list_any in_stack (place_reads place) ≡ false
      → IsShifted turn (memory_read memory_access place m) (memory_read memory_access place n)
  memory_read-turned m n (address at) h off = read_turned turn m n at at h (stays turn at _ off)
  memory_read-turned m n place h off = h

  memory_put-turned : (m n : Memory) (place : Place) (v w : ℕ) → IsShifted turn m n → list_any in_stack (place_reads place) ≡ false
      → v ≡ w → IsShifted turn (memory_put memory_access place v m) (memory_put memory_access place w n)
  memory_put-turned m n (address at) v w h off e = write_turned turn m n at at v w h (stays turn at _ off) e
  memory_put-turned m n place v w h off e = h

  taken-turned : (s t : World) (place : Place) (change : ℕ → Registers → Registers) → IsRotated turn s t
      → list_any in_stack (place_reads place) ≡ false → ((byte : ℕ) → Spares (change byte))
      → IsRotated turn (taken memory_access place change s) (taken memory_access place change t)
  taken-turned s t place change h off spares =
      let P : ℕ → Type 0 = λ b. IsMoved turn (change (operand_byte memory_access place s) s.registers) (change b t.registers) in
      registers-turned _ _ _ _ (memory-turned s t _ _ h (memory_read-turned s.memory t.memory place h.memory off))
      (subst P (operand_byte-turned s t place h off) (changed turn _ s.registers t.registers (moved turn s t h) (spares (operand_byte memory_access place s))))

  replaced-turned : (s t : World) (place : Place) (change : ℕ → StatusFlags → Replacement) → IsRotated turn s t
      → list_any in_stack (place_reads place) ≡ false
      → IsRotated turn (replaced memory_access place change s) (replaced memory_access place change t)
  replaced-turned s t place change h off =
      let same : change (operand_byte memory_access place s) s.registers.flags ≡ change (operand_byte memory_access place t) t.registers.flags =
      ap₂ (λ byte flags. change byte flags) (operand_byte-turned s t place h off) (flags-same s t h) in
      let P : Replacement → Type 0 = λ result. IsMoved turn
      (replaced_registers place (change (operand_byte memory_access place s) s.registers.flags) s.registers) (replaced_registers place result t.registers) in
      registers-turned _ _ _ _
      (memory-turned s t _ _ h
      (memory_put-turned _ _ place _ _ (memory_read-turned s.memory t.memory place h.memory off) off (ap (λ result. result.byte) same)))
      (subst P same (changed turn _ s.registers t.registers (moved turn s t h) (put place _)))

  stored-turned : (s t : World) (place : Place) (v w : ℕ) → IsRotated turn s t → list_any in_stack (place_reads place) ≡ false → v ≡ w
      → IsRotated turn (stored memory_access place v s) (stored memory_access place w t)
  stored-turned s t place v w h off e = memory-turned s t _ _ h (memory_put-turned s.memory t.memory place v w h.memory off e)

  jumped_through-turned : (s t : World) (a : ℕ) → IsRotated turn s t → list_any in_stack (jump_reads (pointer a)) ≡ false
      → IsRotated turn (jumped_through memory_access a s) (jumped_through memory_access a t)
  unfolding jumped_through
  jumped_through-turned s t a h off =
      let first : rotated_address turn a ≡ a = stays turn a _ off in
      let second : rotated_address turn (256 * (a / 256) + (a + 1) % 256) ≡ 256 * (a / 256) + (a + 1) % 256 = stays turn _ _ (off_first a _ off).1 in
      let between : IsRotated turn (after_read memory_access a s) (after_read memory_access a t) =
      memory-turned s t _ _ h (read_turned turn s.memory t.memory a a h.memory first) in
      pc-turned _ _ _ _ (memory-turned _ _ _ _ between (read_turned turn _ _ _ _ between.memory second))
      (ap₂ (λ low high. low + 256 * high) (byte_turned turn s.memory t.memory a a h.memory first) (byte_turned turn _ _ _ _ between.memory second))

  jumped-turned : (s t : World) (place : Place) → IsRotated turn s t → list_any in_stack (jump_reads place) ≡ false
      → IsRotated turn (jumped memory_access place s) (jumped memory_access place t)
  jumped-turned s t (address at) h off = pc-turned s t at at h refl
  jumped-turned s t (pointer at) h off = jumped_through-turned s t at h off
  jumped-turned s t place h off = h

  called_place-turned : (s t : World) (place : Place) → IsRotated turn s t
      → IsRotated turn (called_place memory_access place s) (called_place memory_access place t)
  called_place-turned s t (address at) h = called-turned s t at h
  called_place-turned s t place h = h

  branched-turned : (s t : World) (place : Place) (b c : Bool) → IsRotated turn s t → b ≡ c
      → IsRotated turn (if b then branched_to place s else s) (if c then branched_to place t else t)
  branched-turned s t place b c h e =
      let P : Bool → Type 0 = λ v. IsRotated turn (if b then branched_to place s else s) (if v then branched_to place t else t) in
      subst P e (same b)
    where
      same : (b : Bool) → IsRotated turn (if b then branched_to place s else s) (if b then branched_to place t else t)
      same true = pc-turned s t _ _ h (ap (λ n. pc_at_target place n) (pc-same s t h))
      same false = h

  effect-turned : (s t : World) (place : Place) (effect : Effect) → IsRotated turn s t
      → list_any in_stack (operand_uses effect place) ≡ false → SparesS effect
      → IsRotated turn (after_effect memory_access place effect s) (after_effect memory_access place effect t)
  unfolding after_effect
  effect-turned s t place (sets change) h off spares =
      registers-turned s t _ _ h (changed turn change s.registers t.registers (moved turn s t h) (made (sets change) spares 0))
  effect-turned s t place (takes change) h off spares = taken-turned s t place change h off (made (takes change) spares)
  effect-turned s t place (replaces change) h off spares = replaced-turned s t place change h off
  effect-turned s t place (stores byte) h off spares =
      stored-turned s t place _ _ h off (given turn (stores byte) s.registers t.registers spares (moved turn s t h))
  effect-turned s t place (pushes byte) h off spares =
      pushed-turned s t _ _ h (given turn (pushes byte) s.registers t.registers spares (moved turn s t h))
  effect-turned s t place (pulls change) h off spares =
      let rest : IsRotated turn (after_pull memory_access s) (after_pull memory_access t) = after_pull-turned s t h in
      let P : ℕ → Type 0 = λ b. IsMoved turn (change (pulled memory_access s) (after_pull memory_access s).registers) (change b (after_pull memory_access t).registers) in
      registers-turned _ _ _ _ rest
      (subst P (pulled-turned s t h) (changed turn (change (pulled memory_access s)) _ _ (moved turn _ _ rest) (made (pulls change) spares (pulled memory_access s))))
  effect-turned s t place (branches test) h off spares = branched-turned s t place _ _ h (ap (λ flags. test flags) (flags-same s t h))
  effect-turned s t place jumps h off spares = jumped-turned s t place h off
  effect-turned s t place calls h off spares = called_place-turned s t place h
  effect-turned s t place returns h off spares = returned-turned s t h
  effect-turned s t place returns_from_interrupt h off spares = returned_from_interrupt-turned s t h
  effect-turned s t place breaks h off spares = h

  -- the place of the operand

  zero_page_word-turned : (m n : Memory) (a : ℕ) → IsShifted turn m n → list_any in_stack (a ∷ (a + 1) % 256 ∷ []) ≡ false
      → zero_page_word memory_access m a ≡ zero_page_word memory_access n a
  zero_page_word-turned m n a h off =
      ap₂ (λ low high. low + 256 * high) (byte_turned turn m n a a h (stays turn a _ off))
      (byte_turned turn m n _ _ h (stays turn _ _ (off_first a _ off).1))

  base-turned : (m n : Memory) (r : Registers) (mode : Mode) (value : ℕ) → IsShifted turn m n
      → list_any in_stack (pointer_reads mode value r) ≡ false
      → base_address memory_access m mode value ≡ base_address memory_access n mode value
  base-turned m n r IndirectIndexed value h off = zero_page_word-turned m n value h off
  base-turned m n r mode value h off = refl

  place_in : (m n : Memory) (r : Registers) (mode : Mode) (value : ℕ) → IsShifted turn m n
      → list_any in_stack (pointer_reads mode value r) ≡ false
      → place_of memory_access m r mode value ≡ place_of memory_access n r mode value
  place_in m n r IndexedIndirect value h off = ap (λ a. address a) (zero_page_word-turned m n _ h off)
  place_in m n r IndirectIndexed value h off = ap (λ word. address ((word + r.y) % 65536)) (zero_page_word-turned m n value h off)
  place_in m n r mode value h off = refl

  place_at_s : (n : Memory) (q : Registers) (mode : Mode) (value s : ℕ)
      → place_of memory_access n (at_s s q) mode value ≡ place_of memory_access n q mode value
  place_at_s n q IndexedIndirect value s = refl
  place_at_s n q mode value s = refl

  place-turned : (s t : World) (mode : Mode) (value : ℕ) → IsRotated turn s t
      → list_any in_stack (pointer_reads mode value s.registers) ≡ false
      → place_of memory_access s.memory s.registers mode value ≡ place_of memory_access t.memory t.registers mode value
  place-turned s t mode value h off =
      place_in s.memory t.memory s.registers mode value h.memory off
      ∙ ap (λ r. place_of memory_access t.memory r mode value) h.registers ∙ place_at_s t.memory t.registers mode value s.registers.s

  branch-turned : (effect : Effect) (f g : StatusFlags) (m n : ℕ) (p q : Place) → f ≡ g → m ≡ n → p ≡ q
      → branch_cycles effect f m p ≡ branch_cycles effect g n q
  branch-turned effect f g m n p q flags next place = λ i. branch_cycles effect (flags i) (next i) (place i)

  -- each instruction
  pub performed-turned : (d : Decoded) (s t : World) → IsRotated turn s t → IsOffStack d s
      → IsRotated turn (performed memory_access d.row d.value s) (performed memory_access d.row d.value t)
  unfolding performed
  performed-turned d s t h off =
      let place : place_of memory_access s.memory s.registers d.row.mode d.value ≡ place_of memory_access t.memory t.registers d.row.mode d.value =
      place-turned s t d.row.mode d.value h off.pointer in
      let base : base_address memory_access s.memory d.row.mode d.value ≡ base_address memory_access t.memory d.row.mode d.value =
      base-turned s.memory t.memory s.registers d.row.mode d.value h.memory off.pointer in
      let next : next_address d.row s.registers.pc ≡ next_address d.row t.registers.pc = ap (λ n. next_address d.row n) (pc-same s t h) in
      let crossing : d.row.crosses && crosses_page (base_address memory_access s.memory d.row.mode d.value) (place_of memory_access s.memory s.registers d.row.mode d.value)
      ≡ d.row.crosses && crosses_page (base_address memory_access t.memory d.row.mode d.value) (place_of memory_access t.memory t.registers d.row.mode d.value) =
      ap₂ (λ b p. d.row.crosses && crosses_page b p) base place in
      let branch : branch_cycles (effect_of d.row.mnemonic) s.registers.flags (next_address d.row s.registers.pc) (place_of memory_access s.memory s.registers d.row.mode d.value)
      ≡ branch_cycles (effect_of d.row.mnemonic) t.registers.flags (next_address d.row t.registers.pc) (place_of memory_access t.memory t.registers d.row.mode d.value) =
      branch-turned (effect_of d.row.mnemonic) _ _ _ _ _ _ (flags-same s t h) next place in
      let P : Place → Type 0 = λ p. IsRotated turn
      (after_effect memory_access (place_of memory_access s.memory s.registers d.row.mode d.value) (effect_of d.row.mnemonic) (with_pc (next_address d.row s.registers.pc) s))
      (after_effect memory_access p (effect_of d.row.mnemonic) (with_pc (next_address d.row t.registers.pc) t)) in
      let done : P (place_of memory_access t.memory t.registers d.row.mode d.value) = subst P place
      (effect-turned _ _ (place_of memory_access s.memory s.registers d.row.mode d.value) (effect_of d.row.mnemonic) (pc-turned s t _ _ h next)
      off.operand (spares_s d.row.mnemonic off.mnemonic)) in
      record {
        registers = done.registers;
        low = done.low;
        s = done.s;
        memory = done.memory;
        cycles = λ i. h.cycles i + (d.row.cycles + one_if (sym crossing i) + sym branch i);
      }

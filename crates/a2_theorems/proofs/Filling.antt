use Rattle.std.specs.Prelude.{◌≡◌, ◌<◌, ◌≤◌, ℕ, suc, ◌+◌, ◌%◌, ◌&&◌, [], ◌∷◌, true, false, refl}
use Rattle.std.proofs.Common.{ap, arith}
use Rattle.a2_bus.specs.Memory.{Memory, ram_byte, ram_end}
use Rattle.a2_services.specs.World.{World}
use Rattle.a2_machine.specs.Meaning.{Code}
use Rattle.a2_machine.proofs.Walks.{Leads}
use Rattle.a2_machine.proofs.Computing.{computing}
use Rattle.a2_theorems.specs.Routines.{routine, entered, Keeps, word}
use Rattle.a2_theorems.specs.Filling.{filling, FillsRange, FillingFills}
use Rattle.a2_theorems.proofs.Returning.{does, finishes, home_on}
use Rattle.a2_theorems.proofs.Keeping.{keeps_stores, keeps_same, keeps_all, keeps_word}
use Rattle.a2_theorems.proofs.Arrays.{cells, is_cell, is_below, Have, storing, stored_below}
use Rattle.a2_theorems.proofs.Places.{put}
use Rattle.a2_theorems.proofs.Counting.{ReachesTop, counting}

abbrev code : Code
code = routine 0x300 filling

-- the address of the cells to be filled, and how many there are; Y counts those that are left
abbrev base : Memory → ℕ
base memory = word memory 0x06

abbrev count : Memory → ℕ
count memory = ram_byte memory 0x08

abbrev left_count : World → ℕ
left_count w = w.registers.y

-- k cells are left, the first ones
record Left (memory : Memory) (k : ℕ) (w : World) : Type 0 where
  value : w.registers.a ≡ ram_byte memory 0x09
  filled : Have w.memory (base memory) k (count memory) (λ i. ram_byte memory 0x09)
  rest : Keeps memory (cells (base memory) (count memory)) w

-- nothing below the cells changes
below : (memory : Memory) → 0xC00 ≤ base memory → (a : ℕ) → a < 0xC00 → cells (base memory) (count memory) a ≡ false
below memory low a small = is_below (base memory) (count memory) a (omega (arith, small, low))

round : (memory : Memory) → 0xC00 ≤ base memory → base memory + count memory ≤ ram_end → (k : ℕ) (w : World) → k < count memory
    → (w.registers.y + 255) % 256 ≡ k → Left memory (suc k) w
    → Leads code (put 0x304 0xFD false w) 4
    (λ v. ReachesTop 0x304 0xFD left_count ((w.registers.y + 255) % 256) (w.cycles + 13) v × Left memory k v)
unfolding computing
round memory low high k w some index left =
    storing code (put 0x304 0xFD false w) _ _ 2 1 _ _ 0x06 (base memory) k refl
    (record { found = refl; no_return = refl; no_service = refl }) pointer index low (omega (arith, some, high)) refl refl
    ((refl, refl, refl, refl), refl, cycles w.cycles) (record {
      value = left.value;
      filled = stored_below w.memory (base memory) w.registers.a (λ i. ram_byte memory 0x09) low k (count memory) left.value left.filled;
      rest = keeps_stores ((base memory + k, w.registers.a) ∷ []) memory _ w _ one refl left.rest;
    })
  where
    cycles : (c : ℕ) → c + 2 + 2 + 6 + 3 ≡ c + 13
    cycles c = omega arith

    one : (cells (base memory) (count memory) (base memory + k) && true) ≡ true
    one = ap (λ b. b && true) (is_cell (base memory) (count memory) k some)

    pointer : word w.memory 0x06 ≡ base memory
    pointer = keeps_word memory _ w 0x06 left.rest (below memory low 6 (omega arith)) (below memory low 7 (omega arith))

pub filling_fills : FillingFills
unfolding computing
filling_fills memory bytes stack low high =
    does 0x300 filling memory _ _ (FillsRange memory)
    (counting code 0x304 0xFD left_count (Left memory) (count memory) 6 13 _ 2 4 2 _ (entered 0x300 memory) (omega arith) (bytes 0x08)
    (_, refl, (((refl, refl, refl, refl), refl, refl), record { value = refl; filled = none; rest = keeps_same memory _ _ _ refl all }))
    (λ k w some index left. round memory low high k w some index left)
    (λ w cycles left. finishes code (put 0x304 0xFD true w) _ 2 _ _ refl
    (home_on memory _ w left.rest (below memory low 0x1FE (omega arith)) (below memory low 0x1FF (omega arith)) stack)
    (omega (arith, cycles)) (record { filled = λ i lt. left.filled i (omega arith) lt; rest = keeps_same memory _ w _ refl left.rest })))
  where
    all : Keeps memory (cells (base memory) (count memory)) (entered 0x300 memory)
    all = keeps_all 0x300 memory _

    none : (i : ℕ) → count memory ≤ i → i < count memory → ram_byte memory (base memory + i) ≡ ram_byte memory 0x09
    none i h lt = let never : ⊥ = omega (arith, h, lt) in absurd never

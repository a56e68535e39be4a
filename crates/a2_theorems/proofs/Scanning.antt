-- Loops over a text: LDA (zp),Y at the top, BEQ exits at the 0 that ends the text, and Y is incremented in each round.
use Rattle.std.specs.Prelude.{◌≡◌, ◌≢◌, ◌<◌, ℕ, suc, ◌+◌, ◌*◌, ◌%◌, ◌==◌, Bool, true, false, Some}
use Rattle.std.proofs.Common.{sym, ap, ◌∙◌, arith}
use Rattle.a2_opcode.specs.declared.Mnemonic.TheVariants.{Lda}
use Rattle.a2_opcode.specs.declared.Mode.TheVariants.{IndirectIndexed}
use Rattle.a2_opcode.specs.Table.{page_crossing_row}
use Rattle.a2_bus.specs.Memory.{Memory, ram_byte, ram_end, memory_access}
use Rattle.a2_effect.specs.Place.{zero_page_word, is_other_page}
use Rattle.a2_effect.specs.Registers.{one_if}
use Rattle.a2_services.specs.World.{World}
use Rattle.a2_machine.specs.Meaning.{Code}
use Rattle.a2_machine.proofs.Walks.{Leads}
use Rattle.a2_theorems.proofs.Places.{At, put, from, in_memory, so, counted}
use Rattle.a2_theorems.proofs.Stepping.{IsAtPc}
use Rattle.a2_theorems.proofs.Counting.{not_zero}
use Rattle.a2_theorems.proofs.Indexing.{load, loaded_at, crossed, crosses}
use Rattle.a2_theorems.proofs.Branching.{Z, with_flag, onward}

-- the world at the top of the loop, with a known memory
abbrev pub at_top : (pc s : ℕ) → Memory → Bool → World → World
at_top pc s memory z w = record (put pc s z w) { memory = memory }

-- the world after LDA, with this Z; the text begins at an address
abbrev pub read : (pc s : ℕ) → Memory → (base : ℕ) → Bool → World → World
read pc s memory base z w = with_flag Z z (loaded_at 2 5 base (base + w.registers.y) (at_top pc s memory z w))

-- a text of this many bytes begins at an address in RAM: none of them is 0, and the byte after them is 0
pub record IsText (memory : Memory) (base n : ℕ) : Type 0 where
  pub few : n < 256
  pub low : base + n < ram_end
  pub some : (i : ℕ) → i < n → ram_byte memory (base + i) ≢ 0
  pub ends : ram_byte memory (base + n) ≡ 0

-- The memory is not changed. There are `n` bytes, and `Left k` states what holds if k of them are left. `begun` is the
-- number of cycles before the loop, and `more` that of a round without LDA.
module _ (code : Code) (pc s pointer base : ℕ) (memory : Memory) (Left : ℕ → World → Type 0) (n begun more : ℕ)
    (text : IsText memory base n) (points : zero_page_word memory_access memory pointer ≡ base)
    (stands : (z : Bool) (w : World) → IsAtPc code (at_top pc s memory z w)
    (record { row = page_crossing_row Lda IndirectIndexed 0xB1 5; value = pointer })) where
  -- back at the top, with this Y
  abbrev pub ReachesTop : (y cycles : ℕ) → World → Type 0
  ReachesTop y cycles w = At pc s w.registers.flags.z w × (w.registers.y ≡ y) × (w.cycles ≡ cycles) × (w.memory ≡ memory)

  record Round (k : ℕ) (w : World) : Type 0 where
    at : At pc s w.registers.flags.z w
    index : w.registers.y + k ≡ n
    cycles : w.cycles + k * (5 + more) ≡ n * (5 + more) + begun + crossed base w.registers.y
    same : w.memory ≡ memory
    left : Left k w

  -- LDA, in a round or at the end
  reads : (k : ℕ) (z : Bool) (w : World) (rest : ℕ) (Q : World → Type 0) → Round k w → (ram_byte memory (base + w.registers.y) == 0) ≡ z
      → Leads code (read pc s memory base z w) rest Q → Leads code w (1 + rest) Q
  reads k z w rest Q round is leads =
      from code pc s w.registers.flags.z w (1 + rest) Q round.at
      (in_memory code memory (put pc s w.registers.flags.z w) (1 + rest) Q round.same
      (onward code Z z top (loaded_at 2 5 base (base + w.registers.y) top) 1 rest Q
      (load code top pointer (base + w.registers.y) (stands w.registers.flags.z w) place low
      ∙ ap (λ b. Some (loaded_at 2 5 b (base + w.registers.y) top)) points) is leads))
    where
      top : World
      top = at_top pc s memory w.registers.flags.z w

      low : base + w.registers.y < ram_end
      low = let a = text.low in let b = round.index in omega (arith, a, b)

      place : (zero_page_word memory_access memory pointer + w.registers.y) % 65536 ≡ base + w.registers.y
      place = omega (arith, points, low)

  -- the cycles so far, including those of LDA
  spent : (k : ℕ) (w : World) → Round k w
      → w.cycles + (5 + one_if (is_other_page base (base + w.registers.y)) + 0) + k * (5 + more)
      ≡ n * (5 + more) + begun + 5 + crossed base (w.registers.y + 1)
  spent k w round = summed _ _ _ (k * (5 + more)) (n * (5 + more)) (crosses base w.registers.y small) round.cycles
    where
      small : w.registers.y < 256
      small = let a = text.few in let b = round.index in omega (arith, a, b)

      summed : (p q r all every : ℕ) → p + q ≡ r → w.cycles + all ≡ every + begun + q → w.cycles + (5 + p + 0) + all ≡ every + begun + 5 + r
      summed p q r all every one old = omega (arith, one, old)

  pub scanning : (Q : World → Type 0) (begin round end steps : ℕ) (w : World) → begin + (n * (1 + round) + (1 + end)) ≡ steps
      → Leads code w begin (λ v. ReachesTop 0 begun v × Left n v)
      → ((k : ℕ) (v : World) → v.registers.y + suc k ≡ n → Left (suc k) v
      → Leads code (read pc s memory base false v) round
      (λ u. ReachesTop ((v.registers.y + 1) % 256) ((read pc s memory base false v).cycles + more) u × Left k u))
      → ((v : World) → v.registers.y ≡ n
      → (read pc s memory base true v).cycles ≡ n * (5 + more) + begun + 5 + crossed base (n + 1) → Left 0 v
      → Leads code (read pc s memory base true v) end Q) → Leads code w steps Q
  scanning Q begin round end steps w are first once last =
      counted code Round Q n begin (1 + round) (1 + end) steps w are (so code w begin _ _ first (λ v h. at_first v h))
      (λ k v r. one k v r) (λ v r. at_last v r)
    where
      at_first : (v : World) → ReachesTop 0 begun v × Left n v → Round n v
      at_first v ((at, y, cycles, same), left) =
          record { at = at; index = omega (arith, y); cycles = omega (arith, cycles, y, none); same = same; left = left }
        where
          none : crossed base v.registers.y ≡ 0
          none = omega (arith, y)

      one : (k : ℕ) (v : World) → Round (suc k) v → Leads code v (1 + round) (Round k)
      one k v r =
          reads (suc k) false v round _ r (not_zero _ (text.some v.registers.y (let a = r.index in omega (arith, a))))
          (so code (read pc s memory base false v) round _ _ (once k v r.index r.left) (λ u h. following u h))
        where
          following : (u : World) → ReachesTop ((v.registers.y + 1) % 256) ((read pc s memory base false v).cycles + more) u × Left k u → Round k u
          following u ((at, y, cycles, same), left) = record {
            at = at;
            index = omega (arith, up, r.index);
            cycles = less _ cycles (spent (suc k) v r) ∙ ap (λ i. n * (5 + more) + begun + crossed base i) (sym up);
            same = same;
            left = left;
          }
            where
              up : u.registers.y ≡ v.registers.y + 1
              up = let a = text.few in let b = r.index in omega (arith, y, a, b)

              less : (c : ℕ) → u.cycles ≡ c + more → c + suc k * (5 + more) ≡ n * (5 + more) + begun + 5 + crossed base (v.registers.y + 1)
                  → u.cycles + k * (5 + more) ≡ n * (5 + more) + begun + crossed base (v.registers.y + 1)
              less c is sum = let one : suc k * (5 + more) ≡ 5 + more + k * (5 + more) = grind arith in omega (arith, one, is, sum)

      at_last : (v : World) → Round 0 v → Leads code v (1 + end) Q
      at_last v r =
          reads 0 true v end Q r (ap (λ m. m == 0) (ap (λ i. ram_byte memory (base + i)) index ∙ text.ends)) (last v index cycles r.left)
        where
          index : v.registers.y ≡ n
          index = let a = r.index in omega (arith, a)

          cycles : (read pc s memory base true v).cycles ≡ n * (5 + more) + begun + 5 + crossed base (n + 1)
          cycles = nothing _ _ (spent 0 v r) ∙ ap (λ i. n * (5 + more) + begun + 5 + crossed base (i + 1)) index
            where
              nothing : (c d : ℕ) → c + 0 * (5 + more) ≡ d → c ≡ d
              nothing c d is = let none : 0 * (5 + more) ≡ 0 = grind arith in omega (arith, none, is)

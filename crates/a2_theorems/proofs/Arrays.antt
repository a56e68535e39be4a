-- Consecutive cells of RAM, which a loop stores through an index.
use Rattle.std.specs.Prelude.{◌≡◌, ◌≢◌, ◌<◌, ◌≤◌, ◌⊎◌, ℕ, suc, ◌+◌, ◌&&◌, nat_le, nat_lt, Bool, true, false, Some}
use Rattle.std.specs.List.{list_all}
use Rattle.std.proofs.Common.{sym, ap, ◌∙◌, arith, inl, inr}
use Rattle.std.proofs.lemmas.Bool.Decides.{nat_tests}
use Rattle.a2_opcode.specs.declared.Mnemonic.TheVariants.{Sta}
use Rattle.a2_opcode.specs.declared.Mode.TheVariants.{IndirectIndexed}
use Rattle.a2_opcode.specs.Table.{fixed}
use Rattle.a2_bus.specs.Memory.{Memory, ram_byte, with_ram, ram_end, memory_access}
use Rattle.a2_bus.proofs.Frame.{ram_byte-with_ram}
use Rattle.a2_effect.specs.Place.{zero_page_word}
use Rattle.a2_services.specs.World.{World}
use Rattle.a2_machine.specs.Meaning.{Code}
use Rattle.a2_machine.proofs.Walks.{walked, Leads}
use Rattle.a2_theorems.proofs.Keeping.{outside, stored}
use Rattle.a2_theorems.proofs.Places.{stepping}
use Rattle.a2_theorems.proofs.Stepping.{IsAtPc}
use Rattle.a2_theorems.proofs.Indexing.{store, stored_at}

-- this many cells, starting at an address
abbrev pub cells : (base count : ℕ) → ℕ → Bool
cells base count a = nat_le base a && nat_lt a (base + count)

pub is_cell : (base count i : ℕ) → i < count → cells base count (base + i) ≡ true
is_cell base count i few = grind (arith, nat_tests, few)

pub is_below : (base count a : ℕ) → a < base → cells base count a ≡ false
is_below base count a low = grind (arith, nat_tests, low)

-- a part, then STA (zp),Y into the i-th cell, above the text pages with all code below the cells, and what follows
pub storing : (code : Code) (w v u : World) (m n : ℕ) (P Q : World → Type 0) (pointer base i : ℕ) → walked code w m ≡ Some v
    → IsAtPc code v (record { row = fixed Sta IndirectIndexed 0x91 6; value = pointer })
    → zero_page_word memory_access v.memory pointer ≡ base → v.registers.y ≡ i → 0xC00 ≤ base → base + i < ram_end
    → list_all (λ n. nat_lt n 0xC00) code.protected ≡ true → walked code (stored_at 2 6 (base + i) v) n ≡ Some u → P u → Q u
    → Leads code w (m + (1 + n)) (λ x. P x × Q x)
storing code w v u m n P Q pointer base i walk stands points index high low code_low more at holds =
    stepping code w v (stored_at 2 6 (base + i) v) m n (λ x. P x × Q x) walk
    (store code v pointer (base + i) stands (omega (arith, points, index, low)) low
    (outside 0xC00 code.protected (base + i) code_low (omega (arith, high)))) (u, more, (at, holds))

-- the cells from the k-th up to, but not including, the n-th hold the bytes of a function
abbrev pub Have : (memory : Memory) (base k n : ℕ) (f : ℕ → ℕ) → Type 0
Have memory base k n f = (i : ℕ) → k ≤ i → i < n → ram_byte memory (base + i) ≡ f i

-- one more cell, below those or above them
module _ (memory : Memory) (base byte : ℕ) (f : ℕ → ℕ) (high : 0xC00 ≤ base) where
  at : (k i : ℕ) → byte ≡ f k → ((k ≡ i) ⊎ (ram_byte memory (base + i) ≡ f i) × (base + i ≢ base + k))
      → ram_byte (with_ram memory (base + k) byte) (base + i) ≡ f i
  at k i is (inl e) =
      ap (λ n. ram_byte (with_ram memory (base + k) byte) (base + n)) (sym e)
      ∙ stored memory (base + k) byte (omega (arith, high)) ∙ is ∙ ap f e
  at k i is (inr (old, other)) = ram_byte-with_ram memory (base + k) byte (base + i) other ∙ old

  pub stored_below : (k n : ℕ) → byte ≡ f k → Have memory base (suc k) n f → Have (with_ram memory (base + k) byte) base k n f
  stored_below k n is have i from to = at k i is (by (split from))
    where
      split : k ≤ i → (k ≡ i) ⊎ (suc k ≤ i)
      split h = grind (arith, h)

      by : (k ≡ i) ⊎ (suc k ≤ i) → (k ≡ i) ⊎ (ram_byte memory (base + i) ≡ f i) × (base + i ≢ base + k)
      by (inl e) = inl e
      by (inr more) = inr (have i more to, λ e. omega (arith, e, more))

  pub stored_above : (k n : ℕ) → byte ≡ f n → Have memory base k n f → Have (with_ram memory (base + n) byte) base k (suc n) f
  stored_above k n is have i from to = at n i is (by (split to))
    where
      split : i < suc n → (n ≡ i) ⊎ (i < n)
      split h = grind (arith, h)

      by : (n ≡ i) ⊎ (i < n) → (n ≡ i) ⊎ (ram_byte memory (base + i) ≡ f i) × (base + i ≢ base + n)
      by (inl e) = inl e
      by (inr less) = inr (have i from less, λ e. omega (arith, e, less))

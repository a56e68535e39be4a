-- A new name for memory after stores: from then on, only the facts that are used are known about it.
use Rattle.std.specs.Prelude.{◌≡◌, ◌≢◌, ◌⊎◌, ◌<◌, ◌≤◌, ℕ, ◌==◌, Bool, true, false, ◌&&◌, ◌||◌, if◌then◌else◌, nat_lt, List, [], ◌∷◌, ◌++◌, Some, refl}
use Rattle.std.specs.List.{list_all}
use Rattle.std.proofs.Common.{sym, ap, ◌∙◌, subst, arith, inl, inr, true≢false}
use Rattle.std.proofs.lemmas.Bool.Decides.{nat_tests}
use Rattle.a2_bus.specs.Memory.{Memory, ram_byte, with_ram}
use Rattle.a2_bus.proofs.Frame.{ram_byte-with_ram}
use Rattle.a2_services.specs.World.{World}
use Rattle.a2_machine.specs.Meaning.{Code}
use Rattle.a2_machine.proofs.Walks.{walked}
use Rattle.a2_theorems.specs.Routines.{entered}
use Rattle.a2_theorems.proofs.Keeping.{after_stores}
use Rattle.a2_footprint.proofs.Agreeing.{Pages, pages-with_ram, written_back}
use Rattle.a2_promise_rules.proofs.Leaving.{Leaves, leaves_stores}
use Rattle.a2_promise_rules.proofs.Meeting.{Whole, Reaches}
use Rattle.a2_promise_rules.proofs.Proving.{onto, Fits, whole_with, whole_after}
use Rattle.a2_promise_rules.proofs.Ranges.{is_in}

-- a part that is computed, and what follows in any memory that equals the one after it
pub afresh : (code : Code) (w v : World) (n : ℕ) (Q : World → Type 0) → walked code w n ≡ Some v
    → ((m : Memory) → m ≡ v.memory → Reaches code (record v { memory = m }) Q) → Reaches code w Q
afresh code w v n Q walk later = onto code w v n Q walk (later v.memory refl)

-- One store

module _ (before m : Memory) (at byte : ℕ) (is : m ≡ with_ram before at byte) where
  pub put_other : (a : ℕ) → a ≢ at → ram_byte m a ≡ ram_byte before a
  put_other a other = ap (λ q. ram_byte q a) is ∙ ram_byte-with_ram before at byte a other

  module _ (whole : Whole before) where
    pub put_here : ram_byte m at ≡ byte
    put_here = ap (λ q. ram_byte q at) is ∙ written_back before at byte whole.pages

    pub put_read : (a : ℕ) → ((a ≡ at) × (ram_byte m a ≡ byte)) ⊎ ((a ≢ at) × (ram_byte m a ≡ ram_byte before a))
    put_read a = by (a == at) refl
      where
        by : (v : Bool) → (a == at) ≡ v → ((a ≡ at) × (ram_byte m a ≡ byte)) ⊎ ((a ≢ at) × (ram_byte m a ≡ ram_byte before a))
        by true is_at = let e : a ≡ at = grind (arith, nat_tests, is_at) in inl (e, ap (λ n. ram_byte m n) e ∙ put_here)
        by false is_at = let other : a ≢ at = grind (arith, nat_tests, is_at) in inr (other, put_other a other)

    pub put_whole : byte < 256 → Whole m
    put_whole small = subst Whole (sym is) (whole_with before at byte whole small)

  pub put_leaves : (memory : Memory) (ranges : List (ℕ × ℕ)) (taken : List ℕ) → is_in ranges at ≡ true
      → Leaves memory (is_in ranges) taken (entered 0 before) → Leaves memory (is_in ranges) taken (entered 0 m)
  put_leaves memory ranges taken inside it =
      leaves_stores ((at, byte) ∷ []) memory (is_in ranges) taken (entered 0 before) (entered 0 m) (ap (λ b. b && true) inside) is it

-- Stores whose addresses are numbers

-- the byte at an address after the stores, given the byte before them
abbrev pub last_stored : List (ℕ × ℕ) → (a old : ℕ) → ℕ
last_stored [] a old = old
last_stored ((at, byte) ∷ later) a old = last_stored later a (if at == a then byte else old)

-- stores after other stores
pub then_stores : (first second : List (ℕ × ℕ)) (before middle m : Memory) → middle ≡ after_stores first before
    → m ≡ after_stores second middle → m ≡ after_stores (first ++ second) before
then_stores first second before middle m is then_is = then_is ∙ ap (after_stores second) is ∙ joined first before
  where
    joined : (first : List (ℕ × ℕ)) (memory : Memory)
        → after_stores second (after_stores first memory) ≡ after_stores (first ++ second) memory
    joined [] memory = refl
    joined ((at, byte) ∷ later) memory = joined later (with_ram memory at byte)

module _ (stores : List (ℕ × ℕ)) (before m : Memory) (is : m ≡ after_stores stores before) where
  pub stores_whole : Whole before → Fits stores → Whole m
  stores_whole whole fits = whole_after stores before m whole fits is

  -- a byte after the stores
  pub stores_read : Whole before → (a : ℕ) → ram_byte m a ≡ last_stored stores a (ram_byte before a)
  stores_read whole a = ap (λ q. ram_byte q a) is ∙ go stores before whole.pages
    where
      one : (memory : Memory) (at byte : ℕ) → Pages memory
          → ram_byte (with_ram memory at byte) a ≡ (if at == a then byte else ram_byte memory a)
      one memory at byte pages = by (at == a) refl
        where
          by : (v : Bool) → (at == a) ≡ v → ram_byte (with_ram memory at byte) a ≡ (if v then byte else ram_byte memory a)
          by true is_at =
              let e : at ≡ a = grind (arith, nat_tests, is_at) in
              subst (λ n. ram_byte (with_ram memory at byte) n ≡ byte) e (written_back memory at byte pages)
          by false is_at = let other : a ≢ at = grind (arith, nat_tests, is_at) in ram_byte-with_ram memory at byte a other

      go : (stores : List (ℕ × ℕ)) (memory : Memory) → Pages memory
          → ram_byte (after_stores stores memory) a ≡ last_stored stores a (ram_byte memory a)
      go [] memory pages = refl
      go ((at, byte) ∷ later) memory pages =
          go later (with_ram memory at byte) (pages-with_ram memory at byte pages)
          ∙ ap (last_stored later a) (one memory at byte pages)

  pub stores_leave : (memory : Memory) (ranges : List (ℕ × ℕ)) (taken : List ℕ) → list_all (λ s. is_in ranges s.0) stores ≡ true
      → Leaves memory (is_in ranges) taken (entered 0 before) → Leaves memory (is_in ranges) taken (entered 0 m)
  stores_leave memory ranges taken all it =
      leaves_stores stores memory (is_in ranges) taken (entered 0 before) (entered 0 m) all is it

  -- the stores leave a byte unchanged if its address is different from theirs
  pub stores_other : (low high a : ℕ) → list_all (λ s. nat_lt s.0 low || nat_lt high s.0) stores ≡ true → low ≤ a → a ≤ high
      → ram_byte m a ≡ ram_byte before a
  stores_other low high a all from to = ap (λ q. ram_byte q a) is ∙ go stores before all
    where
      both : (x y : Bool) → (x && y) ≡ true → (x ≡ true) × (y ≡ true)
      both true y h = (refl, h)
      both false y h = absurd (true≢false (sym h))

      apart : (n : ℕ) → (nat_lt n low || nat_lt high n) ≡ true → a ≢ n
      apart n h e = by (nat_lt n low) refl h
        where
          by : (v : Bool) → nat_lt n low ≡ v → (v || nat_lt high n) ≡ true → ⊥
          by true is h = let less : n < low = grind (arith, nat_tests, is) in omega (arith, less, from, e)
          by false is h = let more : high < n = grind (arith, nat_tests, h) in omega (arith, more, to, e)

      go : (stores : List (ℕ × ℕ)) (memory : Memory) → list_all (λ s. nat_lt s.0 low || nat_lt high s.0) stores ≡ true
          → ram_byte (after_stores stores memory) a ≡ ram_byte memory a
      go [] memory all = refl
      go ((at, byte) ∷ later) memory all =
          go later (with_ram memory at byte) (both _ _ all).1 ∙ ram_byte-with_ram memory at byte a (apart at (both _ _ all).0)

-- Bytes whose addresses may be equal

pub same_byte : (memory : Memory) (a b : ℕ) → (a ≢ b) ⊎ (ram_byte memory a ≡ ram_byte memory b)
same_byte memory a b = by (a == b) refl
  where
    by : (v : Bool) → (a == b) ≡ v → (a ≢ b) ⊎ (ram_byte memory a ≡ ram_byte memory b)
    by true is = let e : a ≡ b = grind (arith, nat_tests, is) in inr (ap (λ n. ram_byte memory n) e)
    by false is = let other : a ≢ b = grind (arith, nat_tests, is) in inl other

pub same_place : (memory : Memory) (a b : ℕ) → a ≡ b → ram_byte memory a ≡ ram_byte memory b
same_place memory a b is = ap (λ n. ram_byte memory n) is

-- A conclusion with a condition: it follows, or the condition is false

pub if_lt : {P : Type 0} (m n : ℕ) → (m < n → P) → (n ≤ m) ⊎ P
if_lt {P = P} m n follows = by (less_or m n)
  where
    less_or : (m n : ℕ) → (m < n) ⊎ (n ≤ m)
    less_or m n = grind arith

    by : (m < n) ⊎ (n ≤ m) → (n ≤ m) ⊎ P
    by (inl less) = inr (follows less)
    by (inr more) = inl more

pub if_le : {P : Type 0} (m n : ℕ) → (m ≤ n → P) → (n < m) ⊎ P
if_le {P = P} m n follows = by (at_most_or m n)
  where
    at_most_or : (m n : ℕ) → (m ≤ n) ⊎ (n < m)
    at_most_or m n = grind arith

    by : (m ≤ n) ⊎ (n < m) → (n < m) ⊎ P
    by (inl less) = inr (follows less)
    by (inr more) = inl more

same_or : (m n : ℕ) → (m ≡ n) ⊎ (m ≢ n)
same_or m n = grind arith

pub if_eq : {P : Type 0} (m n : ℕ) → (m ≡ n → P) → (m ≢ n) ⊎ P
if_eq {P = P} m n follows = by (same_or m n)
  where
    by : (m ≡ n) ⊎ (m ≢ n) → (m ≢ n) ⊎ P
    by (inl same) = inr (follows same)
    by (inr other) = inl other

pub if_ne : {P : Type 0} (m n : ℕ) → (m ≢ n → P) → (m ≡ n) ⊎ P
if_ne {P = P} m n follows = by (same_or m n)
  where
    by : (m ≡ n) ⊎ (m ≢ n) → (m ≡ n) ⊎ P
    by (inl same) = inl same
    by (inr other) = inr (follows other)

-- a fact about each number below a bound applies to this number, or this number is not below the bound
pub at_index : {P : Type 0} (m n : ℕ) → (m < n → P) → (n ≤ m) ⊎ P
at_index m n each = if_lt m n each

-- what follows in both cases
pub one_of_two : {A B C : Type 0} → A ⊎ B → (A → C) → (B → C) → C
one_of_two (inl a) first second = first a
one_of_two (inr b) first second = second b

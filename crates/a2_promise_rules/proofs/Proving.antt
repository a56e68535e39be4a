-- The rules for proving that a routine meets its promise.
use Rattle.std.specs.Prelude.{◌≡◌, ◌≢◌, ◌<◌, ◌≤◌, ◌⊎◌, ℕ, zero, suc, ◌+◌, ◌*◌, ◌%◌, ◌&&◌, ◌==◌, nat_le, Bool, true, false, List, [], ◌∷◌, Some, refl}
use Rattle.std.specs.List.{list_all}
use Rattle.std.proofs.Common.{sym, ap, ◌∙◌, subst, arith, inl, inr, true≢false}
use Rattle.std.proofs.lemmas.Bool.Decides.{nat_tests}
use Rattle.a2_page.specs.Cells.{numbers_from}
use Rattle.a2_bus.specs.Memory.{Memory, ram_byte, with_ram}
use Rattle.a2_bus.proofs.Frame.{ram_byte-with_ram}
use Rattle.a2_effect.specs.Registers.{one_if}
use Rattle.a2_services.specs.World.{World}
use Rattle.a2_machine.specs.Meaning.{Code}
use Rattle.a2_machine.proofs.Walks.{walked}
use Rattle.a2_theorems.proofs.Branching.{Flag, flag_of, with_flag, onward}
use Rattle.a2_theorems.proofs.Places.{along}
use Rattle.a2_theorems.proofs.Keeping.{after_stores}
use Rattle.a2_footprint.proofs.Agreeing.{pages-with_ram, written_back}
use Rattle.a2_promise_rules.proofs.Meeting.{Whole, IsWhole, enter, Reaches, Back, home, Meets}

-- a part that is computed, and what follows
pub onto : (code : Code) (w v : World) (m : ℕ) (Q : World → Type 0) → walked code w m ≡ Some v → Reaches code v Q → Reaches code w Q
onto code w v m Q walk (n, leads) = (m + n, along code w v m n Q walk leads)

-- a part up to a branch, and both paths after it
pub fork : (code : Code) (flag : Flag) (w v : World) (m : ℕ) (Q : World → Type 0) → walked code w m ≡ Some v
    → (flag_of flag v ≡ true → Reaches code (with_flag flag true v) Q)
    → (flag_of flag v ≡ false → Reaches code (with_flag flag false v) Q) → Reaches code w Q
fork code flag w v m Q walk set clear = by (flag_of flag v) refl
  where
    go : (b : Bool) → flag_of flag v ≡ b → Reaches code (with_flag flag b v) Q → Reaches code w Q
    go b is (n, leads) = (m + n, onward code flag b w v m n Q walk is leads)

    by : (b : Bool) → flag_of flag v ≡ b → Reaches code w Q
    by true is = go true is (set is)
    by false is = go false is (clear is)

-- a world with this PC and S is the same as one entered there
pub stands : (code : Code) (pc s : ℕ) (w : World) (Q : World → Type 0) → w.registers.pc ≡ pc → w.registers.s ≡ s
    → w.registers.flags.d ≡ false
    → Reaches code (enter pc s w) Q → Reaches code w Q
stands code pc s w Q at is_s d reaches = subst (λ v. Reaches code v Q) same reaches
  where
    same : enter pc s w ≡ w
    same = λ i. record w {
      registers = record w.registers { pc = sym at i; s = sym is_s i; flags = record w.registers.flags { d = sym d i } };
    }

-- back at the top of a loop, with a smaller measure
pub record BackAtTop (pc s : ℕ) (Inv : World → Type 0) (measure : World → ℕ) (m : ℕ) (u : World) : Type 0 where
  pub pc_is : u.registers.pc ≡ pc
  pub s_is : u.registers.s ≡ s
  pub d_is : u.registers.flags.d ≡ false
  pub less : measure u < m
  pub invariant : Inv u

-- a loop, given an invariant at its top and a measure that decreases
pub loops : (code : Code) (pc s : ℕ) (Inv : World → Type 0) (measure : World → ℕ) (Q : World → Type 0)
    → ((v : World) → Inv v → Reaches code (enter pc s v) (λ u. BackAtTop pc s Inv measure (measure v) u ⊎ Q u))
    → (v : World) → Inv v → Reaches code (enter pc s v) Q
loops code pc s Inv measure Q once v inv = go (suc (measure v)) v (omega arith) inv
  where
    join : (w u : World) (n : ℕ) → walked code w n ≡ Some u → Reaches code u Q → Reaches code w Q
    join w u n walk reaches = onto code w u n Q walk reaches

    next : (v : World) → ((u : World) → measure u < measure v → Inv u → Reaches code (enter pc s u) Q)
        → Reaches code (enter pc s v) (λ u. BackAtTop pc s Inv measure (measure v) u ⊎ Q u) → Reaches code (enter pc s v) Q
    next v later (n, (u, walk, inr q)) = (n, (u, walk, q))
    next v later (n, (u, walk, inl again)) =
        join (enter pc s v) u n walk (stands code pc s u Q again.pc_is again.s_is again.d_is (later u again.less again.invariant))

    go : (bound : ℕ) (v : World) → measure v < bound → Inv v → Reaches code (enter pc s v) Q
    go zero v h inv = let never : ⊥ = omega (arith, h) in absurd never
    go (suc bound) v h inv = next v (λ u less i. go bound u (omega (arith, less, h)) i) (once v inv)

-- a call of a routine that meets its contract, and what follows
pub call : (code : Code) (to s following : ℕ) (Before : World → Type 0) (After : World → World → Type 0) (Q : World → Type 0)
    → Meets code to s Before After → (v : World) → IsWhole v → Before v → home s v ≡ following
    → ((u : World) → After v u → Reaches code (enter following (s + 2) u) Q) → Reaches code (enter to s v) Q
call code to s following Before After Q meets v bytes before home_is later = go (meets v bytes before)
  where
    at_last : (u : World) (back_at : World) → Back code s v back_at u → After v u → Reaches code u Q
    at_last u back_at back after =
        stands code following (s + 2) u Q (ap (λ r. r.pc) back.registers ∙ back.home ∙ home_is) (ap (λ r. r.s) back.registers)
        (ap (λ r. r.flags.d) back.registers ∙ back.decimal) (later u after)

    go : Reaches code (enter to s v) (λ u. (last : World) × Back code s v u last × After v last) → Reaches code (enter to s v) Q
    go (n, (u, walk, (last, back, after))) =
        onto code (enter to s v) u n Q walk (onto code u last 1 Q back.step (at_last last u back after))

-- the values that are stored are bytes
abbrev pub Fits : List (ℕ × ℕ) → Type 0
Fits [] = Unit {0}
Fits ((at, byte) ∷ later) = (byte < 256) × Fits later

-- a store into a whole memory
pub whole_with : (memory : Memory) (at byte : ℕ) → Whole memory → byte < 256 → Whole (with_ram memory at byte)
whole_with memory at byte whole small =
    record { bytes = λ a. by a (a == at) refl; pages = pages-with_ram memory at byte whole.pages }
  where
    by : (a : ℕ) (v : Bool) → (a == at) ≡ v → ram_byte (with_ram memory at byte) a < 256
    by a true is =
        let e : a ≡ at = grind (arith, nat_tests, is) in
        subst (λ n. ram_byte (with_ram memory at byte) n < 256) (sym e)
        (subst (λ n. n < 256) (sym (written_back memory at byte whole.pages)) small)
    by a false is =
        let other : a ≢ at = grind (arith, nat_tests, is) in
        subst (λ n. n < 256) (sym (ram_byte-with_ram memory at byte a other)) (whole.bytes a)

pub whole_after : (stores : List (ℕ × ℕ)) (memory last : Memory) → Whole memory → Fits stores → last ≡ after_stores stores memory
    → Whole last
whole_after stores memory last whole fits is = subst Whole (sym is) (go stores memory whole fits)
  where
    go : (stores : List (ℕ × ℕ)) (memory : Memory) → Whole memory → Fits stores → Whole (after_stores stores memory)
    go [] memory whole fits = whole
    go ((at, byte) ∷ later) memory whole (small, fits) =
        go later (with_ram memory at byte) (whole_with memory at byte whole small) fits

-- the byte that ADC leaves, and its carry
pub whole : (sum : ℕ) → sum < 512 → sum % 256 + 256 * one_if (nat_le 256 sum) ≡ sum
whole sum small = by (nat_le 256 sum) refl
  where
    by : (v : Bool) → nat_le 256 sum ≡ v → sum % 256 + 256 * one_if v ≡ sum
    by true is = let more : 256 ≤ sum = grind (arith, nat_tests, is) in omega (arith, more, small)
    by false is = let less : sum < 256 = grind (arith, nat_tests, is) in omega (arith, less)

-- a comparison as a number
pub le_bit : (m n : ℕ) → ((one_if (nat_le m n) ≡ 1) × (m ≤ n)) ⊎ ((one_if (nat_le m n) ≡ 0) × (n < m))
le_bit m n = by (nat_le m n) refl
  where
    by : (v : Bool) → nat_le m n ≡ v → ((one_if v ≡ 1) × (m ≤ n)) ⊎ ((one_if v ≡ 0) × (n < m))
    by true is = inl (refl, (grind (arith, nat_tests, is)))
    by false is = inr (refl, (grind (arith, nat_tests, is)))

-- tests of flags as facts
pub le_yes : (m n : ℕ) → nat_le m n ≡ true → m ≤ n
le_yes m n is = grind (arith, nat_tests, is)

pub le_no : (m n : ℕ) → nat_le m n ≡ false → n < m
le_no m n is = grind (arith, nat_tests, is)

pub eq_yes : (m n : ℕ) → (m == n) ≡ true → m ≡ n
eq_yes m n is = grind (arith, nat_tests, is)

pub eq_no : (m n : ℕ) → (m == n) ≡ false → m ≢ n
eq_no m n is = grind (arith, nat_tests, is)

-- facts as tests
pub yes_le : (m n : ℕ) → m ≤ n → nat_le m n ≡ true
yes_le m n h = grind (arith, nat_tests, h)

pub no_le : (m n : ℕ) → n < m → nat_le m n ≡ false
no_le m n h = grind (arith, nat_tests, h)

pub yes_eq : (m n : ℕ) → m ≡ n → (m == n) ≡ true
yes_eq m n h = grind (arith, nat_tests, h)

pub no_eq : (m n : ℕ) → m ≢ n → (m == n) ≡ false
no_eq m n h = grind (arith, nat_tests, h)

-- digits of numbers
pub odd_bit : (n : ℕ) → one_if (n % 2 == 1) ≡ n % 2
odd_bit n = by (n % 2 == 1) refl
  where
    by : (v : Bool) → (n % 2 == 1) ≡ v → one_if v ≡ n % 2
    by true is = let e : n % 2 ≡ 1 = grind (arith, nat_tests, is) in omega (arith, e)
    by false is = let e : n % 2 ≢ 1 = grind (arith, nat_tests, is) in omega (arith, e)

pub eq_bit : (m n : ℕ) → ((one_if (m == n) ≡ 1) × (m ≡ n)) ⊎ ((one_if (m == n) ≡ 0) × (m ≢ n))
eq_bit m n = by (m == n) refl
  where
    by : (v : Bool) → (m == n) ≡ v → ((one_if v ≡ 1) × (m ≡ n)) ⊎ ((one_if v ≡ 0) × (m ≢ n))
    by true is = inl (refl, (grind (arith, nat_tests, is)))
    by false is = inr (refl, (grind (arith, nat_tests, is)))

-- a test that is true for each byte, by trying all of them
below : (p : ℕ → Bool) (n : ℕ) → list_all p (numbers_from 0 n) ≡ true → (x : ℕ) → x < n → p x ≡ true
below p n all x less = go n 0 all x (omega arith) (omega (arith, less))
  where
    first : (a b : Bool) → (a && b) ≡ true → (a ≡ true) × (b ≡ true)
    first true b h = (refl, h)
    first false b h = absurd (true≢false (sym h))

    go : (n at : ℕ) → list_all p (numbers_from at n) ≡ true → (x : ℕ) → at ≤ x → x < at + n → p x ≡ true
    go zero at all x low high = let never : ⊥ = omega (arith, low, high) in absurd never
    go (suc n) at all x low high = by (at == x) refl (first _ _ all) (λ l. go n (suc at) (first _ _ all).1 x l (omega (arith, high)))
      where
        by : (v : Bool) → (at == x) ≡ v → (p at ≡ true) × (list_all p (numbers_from (suc at) n) ≡ true) → (suc at ≤ x → p x ≡ true) → p x ≡ true
        by true is h later = let e : at ≡ x = grind (arith, nat_tests, is) in subst (λ k. p k ≡ true) e h.0
        by false is h later = let e : at ≢ x = grind (arith, nat_tests, is) in later (omega (arith, e, low))

pub each_byte : (p : ℕ → Bool) → list_all p (numbers_from 0 256) ≡ true → (x : ℕ) → x < 256 → p x ≡ true
each_byte p all x less = below p 256 all x less

-- a factor that decreases or increases
pub product_down : (x y : ℕ) → x ≢ 0 → x < 256 → x * y ≡ (x + 255) % 256 * y + y
product_down x y some small = go ((x + 255) % 256) (omega (arith, some, small))
  where
    go : (k : ℕ) → k + 1 ≡ x → x * y ≡ k * y + y
    go k is = let e : (k + 1) * y ≡ k * y + y = grind arith in ap (λ n. n * y) (sym is) ∙ e

pub product_up : (x y : ℕ) → x < 255 → (x + 1) % 256 * y ≡ x * y + y
product_up x y small = go ((x + 1) % 256) (omega (arith, small))
  where
    go : (k : ℕ) → k ≡ x + 1 → k * y ≡ x * y + y
    go k is = let e : (x + 1) * y ≡ x * y + y = grind arith in ap (λ n. n * y) is ∙ e

pub product_zero : (x y : ℕ) → x ≡ 0 → x * y ≡ 0
product_zero x y is = ap (λ n. n * y) is ∙ (let e : 0 * y ≡ 0 = grind arith in e)

pub product_one : (x y : ℕ) → x ≡ 1 → x * y ≡ y
product_one x y is = ap (λ n. n * y) is ∙ (let e : 1 * y ≡ y = grind arith in e)

-- a product is 0, or at least its factor
pub product_ge : (x y : ℕ) → (y ≡ 0) ⊎ (x ≤ x * y)
product_ge x zero = inl refl
product_ge x (suc y) = let e : x * suc y ≡ x * y + x = grind arith in inr (omega (arith, e))

pub mul_swap : (x y : ℕ) → x * y ≡ y * x
mul_swap x y = grind arith

-- flags as numbers
pub flag_yes : (b : Bool) → 1 ≤ one_if b → b ≡ true
flag_yes true h = refl
flag_yes false h = let never : ⊥ = omega (arith, h) in absurd never

pub flag_no : (b : Bool) → one_if b < 1 → b ≡ false
flag_no true h = let never : ⊥ = omega (arith, h) in absurd never
flag_no false h = refl

-- a weaker statement about the world that steps reach
pub weaken : (code : Code) (w : World) (P Q : World → Type 0) → Reaches code w P → ((u : World) → P u → Q u) → Reaches code w Q
weaken code w P Q (n, (u, walk, holds)) by = (n, (u, walk, by u holds))

-- a statement about each number below a bound, one number after the other
pub none_below : (P : ℕ → Type 0) (i : ℕ) → i + 0 < 0 → P i
none_below P i less = let never : ⊥ = omega (arith, less) in absurd never

pub one_more_below : (P : ℕ → Type 0) (n : ℕ) → P n → ((i : ℕ) → i + 0 < n → P i) → (i : ℕ) → i + 0 < n + 1 → P i
one_more_below P n last before i less = by (split less)
  where
    split : i + 0 < n + 1 → (n ≡ i) ⊎ (i + 0 < n)
    split h = grind (arith, h)

    by : (n ≡ i) ⊎ (i + 0 < n) → P i
    by (inl e) = subst P e last
    by (inr l) = before i l

-- The V flag of a sum of two bytes and a carry, depending on their sizes.
use Rattle.std.specs.Prelude.{◌≡◌, ◌<◌, ◌≤◌, ◌⊎◌, ℕ, ◌+◌, ◌-◌, ℤ, pos, negsuc, ◌+ℤ◌, int_lt, nat_lt, Bool, true, false, ◌||◌, if◌then◌else◌, refl}
use Rattle.std.proofs.Common.{ap, ap₂, ◌∙◌, arith, inl, inr}
use Rattle.std.proofs.lemmas.Bool.Decides.{nat_tests}
use Rattle.std.proofs.lemmas.Int.{ints}
use Rattle.a2_effect.specs.Arithmetic.{overflows, signed}
use Rattle.a2_effect.specs.Registers.{one_if}
use Rattle.a2_promise_rules.proofs.Valuing.{Is, at_least_is, less_is}

-- a sum that is not a signed byte, of two numbers that are both below 0 or both not below 0
abbrev pub Over : (a b c : ℕ) → Type 0
Over a b c = ((a < 128) × (b < 128) × (128 ≤ a + b + c)) ⊎ ((128 ≤ a) × (128 ≤ b) × (a + b + c < 384))

-- a sum that is a signed byte
abbrev pub Fits : (a b c : ℕ) → Type 0
Fits a b c =
    (((a < 128) × (128 ≤ b)) ⊎ ((128 ≤ a) × (b < 128)))
    ⊎ (((a < 128) × (b < 128) × (a + b + c < 128)) ⊎ ((128 ≤ a) × (128 ≤ b) × (384 ≤ a + b + c)))

or_true : (b : Bool) → (b || true) ≡ true
or_true true = refl
or_true false = refl

least : Is (negsuc 127) 0 128
least = omega (arith, ints)

most : Is (pos 127) 127 0
most = omega (arith, ints)

over : (z : ℤ) (s d : ℕ) → Is z s d → (s + 128 < d) ⊎ (127 + d < s) → overflows z ≡ true
over z s d is (inl low) = ap (λ b. b || int_lt (pos 127) z) (less_is z (negsuc 127) s d 0 128 is least (omega (arith, low)))
over z s d is (inr high) =
    ap (λ b. int_lt z (negsuc 127) || b) (less_is (pos 127) z 127 0 s d most is (omega (arith, high))) ∙ or_true (int_lt z (negsuc 127))

fits : (z : ℤ) (s d : ℕ) → Is z s d → d ≤ s + 128 → s ≤ 127 + d → overflows z ≡ false
fits z s d is low high =
    ap₂ (λ a b. a || b) (at_least_is z (negsuc 127) s d 0 128 is least (omega (arith, low)))
    (at_least_is (pos 127) z 127 0 s d most is (omega (arith, high)))

less_or : (m n : ℕ) → (m < n) ⊎ (n ≤ m)
less_or m n = grind arith

low_is : (a : ℕ) → a < 128 → Is (signed a) a 0
low_is a h =
    let e : nat_lt a 128 ≡ true = grind (arith, nat_tests, h) in
    ap (λ v. (if v then pos a else negsuc (255 - a)) +ℤ pos 0) e ∙ (let f : pos a +ℤ pos 0 ≡ pos a = omega (arith, ints) in f)

high_is : (a : ℕ) → a < 256 → 128 ≤ a → Is (signed a) a 256
high_is a l h =
    let e : nat_lt a 128 ≡ false = grind (arith, nat_tests, h) in
    ap (λ v. (if v then pos a else negsuc (255 - a)) +ℤ pos 256) e
    ∙ (let f : negsuc (255 - a) +ℤ pos 256 ≡ pos a = omega (arith, ints, l) in f)

sum_is : (x y : ℤ) (a b c d e : ℕ) → Is x a d → Is y b e → Is (x +ℤ y +ℤ pos c) (a + b + c) (d + e)
sum_is x y a b c d e hx hy = omega (arith, ints, hx, hy)

pub overflow_bit : (a b c : ℕ) → a < 256 → b < 256 → c ≤ 1
    → ((one_if (overflows (signed a +ℤ signed b +ℤ pos c)) ≡ 1) × Over a b c)
    ⊎ ((one_if (overflows (signed a +ℤ signed b +ℤ pos c)) ≡ 0) × Fits a b c)
overflow_bit a b c la lb lc = go (less_or a 128) (less_or b 128)
  where
    yes : overflows (signed a +ℤ signed b +ℤ pos c) ≡ true → one_if (overflows (signed a +ℤ signed b +ℤ pos c)) ≡ 1
    yes is = ap one_if is

    no : overflows (signed a +ℤ signed b +ℤ pos c) ≡ false → one_if (overflows (signed a +ℤ signed b +ℤ pos c)) ≡ 0
    no is = ap one_if is

    both_low : a < 128 → b < 128 → (a + b + c < 128) ⊎ (128 ≤ a + b + c)
        → ((one_if (overflows (signed a +ℤ signed b +ℤ pos c)) ≡ 1) × Over a b c)
        ⊎ ((one_if (overflows (signed a +ℤ signed b +ℤ pos c)) ≡ 0) × Fits a b c)
    both_low x y (inl s) =
        inr (no (fits (signed a +ℤ signed b +ℤ pos c) (a + b + c) 0 (sum_is (signed a) (signed b) a b c 0 0 (low_is a x) (low_is b y)) (omega arith) (omega (arith, s))), inr (inl (x, y, s)))
    both_low x y (inr s) =
        inl (yes (over (signed a +ℤ signed b +ℤ pos c) (a + b + c) 0 (sum_is (signed a) (signed b) a b c 0 0 (low_is a x) (low_is b y)) (inr (omega (arith, s)))), inl (x, y, s))

    both_high : 128 ≤ a → 128 ≤ b → (a + b + c < 384) ⊎ (384 ≤ a + b + c)
        → ((one_if (overflows (signed a +ℤ signed b +ℤ pos c)) ≡ 1) × Over a b c)
        ⊎ ((one_if (overflows (signed a +ℤ signed b +ℤ pos c)) ≡ 0) × Fits a b c)
    both_high x y (inl s) =
        inl (yes (over (signed a +ℤ signed b +ℤ pos c) (a + b + c) 512 (sum_is (signed a) (signed b) a b c 256 256 (high_is a la x) (high_is b lb y)) (inl (omega (arith, s)))), inr (x, y, s))
    both_high x y (inr s) =
        inr (
          no (fits (signed a +ℤ signed b +ℤ pos c) (a + b + c) 512 (sum_is (signed a) (signed b) a b c 256 256 (high_is a la x) (high_is b lb y))
              (omega (arith, s)) (omega (arith, la, lb, lc))),
          inr (inr (x, y, s)),
        )

    go : (a < 128) ⊎ (128 ≤ a) → (b < 128) ⊎ (128 ≤ b)
        → ((one_if (overflows (signed a +ℤ signed b +ℤ pos c)) ≡ 1) × Over a b c)
        ⊎ ((one_if (overflows (signed a +ℤ signed b +ℤ pos c)) ≡ 0) × Fits a b c)
    go (inl x) (inl y) = both_low x y (less_or (a + b + c) 128)
    go (inr x) (inr y) = both_high x y (less_or (a + b + c) 384)
    go (inl x) (inr y) =
        inr (
          no (fits (signed a +ℤ signed b +ℤ pos c) (a + b + c) 256 (sum_is (signed a) (signed b) a b c 0 256 (low_is a x) (high_is b lb y))
              (omega (arith, y)) (omega (arith, x, lb, lc))),
          inl (inl (x, y)),
        )
    go (inr x) (inl y) =
        inr (
          no (fits (signed a +ℤ signed b +ℤ pos c) (a + b + c) 256 (sum_is (signed a) (signed b) a b c 256 0 (high_is a la x) (low_is b y))
              (omega (arith, x)) (omega (arith, y, la, lc))),
          inl (inr (x, y)),
        )

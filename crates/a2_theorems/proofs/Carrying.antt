-- Sums of several bytes with ADC, from the lowest byte up, each with the carry of the one before.
use Rattle.std.specs.Prelude.{◌≡◌, ◌≤◌, ◌<◌, ℕ, zero, suc, ◌+◌, ◌/◌, ◌%◌, ◌*◌, Bool, true, false, nat_le, refl}
use Rattle.std.proofs.Common.{ap, ◌∙◌, arith}
use Rattle.std.proofs.lemmas.Bool.Decides.{nat_tests}
use Rattle.a2_effect.specs.Registers.{one_if}

-- an upper bound for this many bytes
times : (n y : ℕ) → y < 256 → n * y ≤ n * 255
times zero y ly = omega arith
times (suc n) y ly =
    let one : suc n * y ≡ n * y + y = grind arith in
    let other : suc n * 255 ≡ n * 255 + 255 = omega arith in
    omega (arith, one, other, times n y ly, ly)

-- Two numbers that are less than B are added: the sum that is stored, and the carry
pub record Adds (B m n sum : ℕ) (carry : Bool) : Type 0 where
  pub low : m < B
  pub high : n < B
  pub small : sum < B
  pub whole : sum + B * one_if carry ≡ m + n

-- two bytes, after CLC
pub first_byte : (m n : ℕ) → m < 256 → n < 256 → Adds 256 m n ((m + n + 0) % 256) (nat_le 256 (m + n + 0))
first_byte m n lm ln = record { low = lm; high = ln; small = omega arith; whole = by (nat_le 256 (m + n + 0)) refl }
  where
    by : (v : Bool) → nat_le 256 (m + n + 0) ≡ v → (m + n + 0) % 256 + 256 * one_if v ≡ m + n
    by true is = let more : 256 ≤ m + n = grind (arith, nat_tests, is) in omega (arith, more, lm, ln)
    by false is = let less : m + n < 256 = grind (arith, nat_tests, is) in omega (arith, less)

-- one more byte of each number, and the carry of those before
pub next_byte : (B m n sum : ℕ) (c : Bool) (a b : ℕ) → Adds B m n sum c → a < 256 → b < 256
    → Adds (256 * B) (m + B * a) (n + B * b) (sum + B * ((a + b + one_if c) % 256)) (nat_le 256 (a + b + one_if c))
next_byte B m n sum c a b adds la lb = record {
  low = let l = adds.low in let p = times B a la in omega (arith, l, p);
  high = let l = adds.high in let p = times B b lb in omega (arith, l, p);
  small = let l = adds.small in let p = times B ((a + b + one_if c) % 256) (omega arith) in omega (arith, l, p);
  whole = summed (byte c (nat_le 256 (a + b + one_if c)) refl);
}
  where
    byte : (c v : Bool) → nat_le 256 (a + b + one_if c) ≡ v → (a + b + one_if c) % 256 + 256 * one_if v ≡ a + b + one_if c
    byte true true is = let more : 256 ≤ a + b + 1 = grind (arith, nat_tests, is) in omega (arith, more, la, lb)
    byte true false is = let less : a + b + 1 < 256 = grind (arith, nat_tests, is) in omega (arith, less)
    byte false true is = let more : 256 ≤ a + b = grind (arith, nat_tests, is) in omega (arith, more, la, lb)
    byte false false is = let less : a + b < 256 = grind (arith, nat_tests, is) in omega (arith, less)

    parts : (t d e : ℕ) → t + 256 * d ≡ a + b + e → B * t + 256 * B * d ≡ B * a + B * b + B * e
    parts t d e is =
        let l : B * t + 256 * B * d ≡ B * (t + 256 * d) = grind arith in
        let r : B * (a + b + e) ≡ B * a + B * b + B * e = grind arith in
        l ∙ ap (λ k. B * k) is ∙ r

    summed : (a + b + one_if c) % 256 + 256 * one_if (nat_le 256 (a + b + one_if c)) ≡ a + b + one_if c
        → sum + B * ((a + b + one_if c) % 256) + 256 * B * one_if (nat_le 256 (a + b + one_if c)) ≡ m + B * a + (n + B * b)
    summed is = adding _ _ _ _ _ (parts _ _ _ is) adds.whole
      where
        adding : (t d e p q : ℕ) → t + d ≡ p + q + e → sum + e ≡ m + n → sum + t + d ≡ m + p + (n + q)
        adding t d e p q is whole = omega (arith, is, whole)

-- the carry is set exactly if the sum is not less than B
pub carry_is : (B m n sum : ℕ) (c : Bool) → Adds B m n sum c → c ≡ nat_le B (m + n)
carry_is B m n sum true adds =
    let is = adds.whole in
    let more : B ≤ m + n = omega (arith, is) in
    grind (arith, nat_tests, more)
carry_is B m n sum false adds =
    let is = adds.whole in
    let small = adds.small in
    let less : m + n < B = omega (arith, is, small) in
    grind (arith, nat_tests, less)

-- two 16-bit words
pub words : (a b c d : ℕ) → a < 256 → b < 256 → c < 256 → d < 256
    → Adds 65536 (a + 256 * b) (c + 256 * d) ((a + c + 0) % 256 + 256 * ((b + d + one_if (nat_le 256 (a + c + 0))) % 256))
    (nat_le 256 (b + d + one_if (nat_le 256 (a + c + 0))))
words a b c d la lb lc ld = next_byte 256 a c _ _ b d (first_byte a c la lc) lb ld

pub word_sum : (m n sum : ℕ) (c : Bool) → Adds 65536 m n sum c → sum ≡ (m + n) % 65536
word_sum m n sum c adds = let is = adds.whole in let l = adds.small in omega (arith, is, l)

-- the carry that a branch tests, as a number; a and m are the bytes, and x and y are what they are known to be
pub carried : (a m x y : ℕ) → a ≡ x → m ≡ y → x < 256 → y < 256 → (c : Bool) → nat_le 256 (a + m + 0) ≡ c → (x + y) / 256 ≡ one_if c
carried a m x y e f lx ly true is = let more : 256 ≤ x + y = grind (arith, nat_tests, is, e, f) in omega (arith, more, lx, ly)
carried a m x y e f lx ly false is = let less : x + y < 256 = grind (arith, nat_tests, is, e, f) in omega (arith, less)

-- a byte is added to a word that stays below 65,536, by ADC and ADC #0
pub byte_added : (low high y p q : ℕ) → low < 256 → high < 256 → y < 256 → low + 256 * high + (p + y) ≡ q → q < 65536
    → (low + y + 0) % 256 + 256 * ((high + 0 + one_if (nat_le 256 (low + y + 0))) % 256) + p ≡ q
byte_added low high y p q l lh ly is small =
    let sum = word_sum _ _ _ _ (words low high y 0 l lh ly (omega arith)) in omega (arith, sum, is, small)

-- the product of two bytes fits in a 16-bit word
pub fits_word : (n y : ℕ) → n < 256 → y < 256 → n * y < 65536
fits_word n y ln ly = let p = times n y ly in omega (arith, p, ln)

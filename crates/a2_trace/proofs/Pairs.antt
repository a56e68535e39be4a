-- The digits of numbers, two at a time, by tables.
use Rattle.std.specs.Prelude.{slice_index_or}
use Rattle.std.proofs.Common.{◌≡◌, ℕ, ◌+◌, ◌*◌, ◌/◌, ◌%◌, ◌^◌, ◌<◌, ◌≤◌, Bool, true, List, [], ◌∷◌, ◌++◌, eqb, ap, ap₂, refl, ◌∙◌, arith}
use Rattle.std.specs.Fmt.{decimal}
use Rattle.std.proofs.lemmas.List.{append_assoc}
use Rattle.std.proofs.lemmas.Fmt.{decimal_step, decimal_digit}
use Rattle.std.proofs.lemmas.Bool.{agree_below_at, eqb-true}
use Rattle.a2_text.specs.Digits.{hex_digit, hex_pair}
use Rattle.a2_trace.specs.Traced.{pairs, decimal_pair}

abbrev is_high : ℕ → Bool
is_high n = eqb (slice_index_or (pairs hex_pair 256) (2 * n) 0) (hex_digit (n / 16))

abbrev is_low : ℕ → Bool
is_low n = eqb (slice_index_or (pairs hex_pair 256) (2 * n + 1) 0) (hex_digit (n % 16))

-- the digits of a byte are at their place in the table
pub pair-at : (n : ℕ) → n < 256 → slice_index_or (pairs hex_pair 256) (2 * n) 0 ∷ slice_index_or (pairs hex_pair 256) (2 * n + 1) 0 ∷ [] ≡ hex_pair n
pair-at n small =
    ap₂ (λ (a b : ℕ). a ∷ b ∷ []) (eqb-true _ _ (agree_below_at is_high (λ _. true) 256 n refl small))
    (eqb-true _ _ (agree_below_at is_low (λ _. true) 256 n refl small))

abbrev is_tens : ℕ → Bool
is_tens n = eqb (slice_index_or (pairs decimal_pair 100) (2 * n) 0) (48 + n / 10)

abbrev is_ones : ℕ → Bool
is_ones n = eqb (slice_index_or (pairs decimal_pair 100) (2 * n + 1) 0) (48 + n % 10)

-- the digits of a number below 100 are at their place in the table
pub decimal-at : (n : ℕ) → n < 100 → slice_index_or (pairs decimal_pair 100) (2 * n) 0 ∷ slice_index_or (pairs decimal_pair 100) (2 * n + 1) 0 ∷ [] ≡ decimal_pair n
decimal-at n small =
    ap₂ (λ (a b : ℕ). a ∷ b ∷ []) (eqb-true _ _ (agree_below_at is_tens (λ _. true) 100 n refl small))
    (eqb-true _ _ (agree_below_at is_ones (λ _. true) 100 n refl small))

-- the last two digits of a number with more digits
pub last-pair : (n : ℕ) → 100 ≤ n → n < 2 ^ 64 → decimal n ≡ decimal (n / 100) ++ decimal_pair (n % 100)
last-pair n large fits =
    decimal_step n (omega arith) fits
    ∙ ap (λ (l : List ℕ). l ++ ((48 + n % 10) ∷ [])) (decimal_step (n / 10) (omega arith) (omega arith))
    ∙ append_assoc (decimal (n / 10 / 10)) ((48 + n / 10 % 10) ∷ []) ((48 + n % 10) ∷ [])
    ∙ ap₂ (λ (l : List ℕ) (pair : List ℕ). l ++ pair) (ap decimal (hundredth n)) (ap₂ (λ (a b : ℕ). (48 + a) ∷ (48 + b) ∷ []) (tens n) (ones n))
  where
    hundredth : (n : ℕ) → n / 10 / 10 ≡ n / 100
    hundredth n = omega arith

    tens : (n : ℕ) → n / 10 % 10 ≡ n % 100 / 10
    tens n = omega arith

    ones : (n : ℕ) → n % 10 ≡ n % 100 % 10
    ones n = omega arith

-- a number of two digits
pub both-digits : (n : ℕ) → 10 ≤ n → n < 100 → decimal n ≡ decimal_pair n
both-digits n large small =
    decimal_step n large (omega arith) ∙ ap (λ (l : List ℕ). l ++ ((48 + n % 10) ∷ [])) (decimal_digit (n / 10) (omega arith))

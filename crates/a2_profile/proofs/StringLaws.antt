-- What a reader of JSON finds after a string.
use Rattle.std.specs.Prelude.{◌≡◌, ℕ, ◌+◌, ◌/◌, ◌%◌, ◌<◌, ◌≤◌, ◌==◌, ◌||◌, nat_lt, Bool, true, false, List, [], ◌∷◌, ◌++◌, codes, Some, None, if◌then◌else◌, refl}
use Rattle.std.specs.List.{AllByRecursion}
use Rattle.std.proofs.Common.{ap, ◌∙◌, arith, append_assoc}
use Rattle.std.proofs.lemmas.Bool.{ne_eqb}
use Rattle.a2_text.specs.Digits.{hex_digit, hex_pair}
use Rattle.a2_text.specs.Json.{escaped}
use Rattle.a2_profile.specs.Json.{escapes, after_string}

left_false : (a b : Bool) → (a || b) ≡ false → a ≡ false
left_false true b h = h
left_false false b h = refl

right_false : (a b : Bool) → (a || b) ≡ false → b ≡ false
right_false true true h = h
right_false true false h = refl
right_false false b h = h

-- past a byte that is not a control byte, a quote or a backslash
past : (byte : ℕ) (rest : List ℕ) → nat_lt byte 0x20 ≡ false → (byte == 0x22) ≡ false → (byte == 0x5C) ≡ false
    → after_string false (byte ∷ rest) ≡ after_string false rest
past byte rest low quote slash = step (nat_lt byte 0x20) (byte == 0x22) (byte == 0x5C) low quote slash
  where
    step : (a b c : Bool) → a ≡ false → b ≡ false → c ≡ false
        → (if a then None else if b then Some rest else after_string c rest) ≡ after_string false rest
    step a b c p q r = rw (p, q, r) refl

-- past a digit
digit-low : (n : ℕ) → 48 ≤ hex_digit n
digit-low n = go (nat_lt n 10)
  where
    go : (b : Bool) → 48 ≤ (if b then 48 + n else 55 + n)
    go true = omega arith
    go false = omega arith

digit-high : (n : ℕ) → n < 16 → hex_digit n < 92
digit-high n low = go (nat_lt n 10)
  where
    go : (b : Bool) → (if b then 48 + n else 55 + n) < 92
    go true = omega (arith, low)
    go false = omega (arith, low)

not-below : (d : ℕ) → 0x20 ≤ d → nat_lt d 0x20 ≡ false
not-below d low = grind (arith, low)

past-digit : (n : ℕ) (rest : List ℕ) → n < 16 → after_string false (hex_digit n ∷ rest) ≡ after_string false rest
past-digit n rest small =
    let low = digit-low n in
    let high = digit-high n small in
    past (hex_digit n) rest (not-below (hex_digit n) (omega (arith, low))) (ne_eqb (hex_digit n) 0x22 (omega (arith, low)))
    (ne_eqb (hex_digit n) 0x5C (omega (arith, high)))

-- past the escape of a byte
past-escaped : (byte : ℕ) (rest : List ℕ) → byte < 256 → after_string false (escaped byte ++ rest) ≡ after_string false rest
past-escaped byte rest small = go ((byte == 0x22) || (byte == 0x5C)) (nat_lt byte 0x20 || nat_lt 0x7E byte) refl refl
  where
    go : (b c : Bool) → ((byte == 0x22) || (byte == 0x5C)) ≡ b → (nat_lt byte 0x20 || nat_lt 0x7E byte) ≡ c
        → after_string false ((if b then 0x5C ∷ byte ∷ [] else if c then codes "\\u00" ++ hex_pair byte else byte ∷ []) ++ rest)
        ≡ after_string false rest
    go true c p q = refl
    go false true p q =
        past-digit (byte / 16) (hex_digit (byte % 16) ∷ rest) (omega (arith, small)) ∙ past-digit (byte % 16) rest (omega (arith, small))
    go false false p q =
        past byte rest (left_false (nat_lt byte 0x20) (nat_lt 0x7E byte) q) (left_false (byte == 0x22) (byte == 0x5C) p)
        (right_false (byte == 0x22) (byte == 0x5C) p)

-- past the escapes of a text, and its quote
pub past-escapes : (text rest : List ℕ) → AllByRecursion (λ byte. byte < 256) text → after_string false (escapes text ++ 0x22 ∷ rest) ≡ Some rest
unfolding escapes
past-escapes [] rest h = refl
past-escapes (byte ∷ text) rest h =
    ap (after_string false) (append_assoc (escaped byte) (escapes text) (0x22 ∷ rest)) ∙ past-escaped byte (escapes text ++ 0x22 ∷ rest) h.0
    ∙ past-escapes text rest h.1

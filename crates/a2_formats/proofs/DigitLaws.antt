-- Reading one pair of digits after another.
use Rattle.std.proofs.Common.{◌≡◌, ℕ, ◌+◌, ◌-◌, ◌*◌, ◌%◌, ◌<◌, ◌≤◌, nat_lt, ◌||◌, eqb, true, false, List, [], ◌∷◌, ◌++◌, length, get_or, take, drop, Option, Some, None, Result, Ok, Err, refl, sym, ap, ◌∙◌, arith}
use Rattle.std.specs.Prelude.{IfSome, unwrap_or, if◌then◌else◌}
use Rattle.std.proofs.lemmas.Bool.{cond_both, eqb-true, le-ltb, agree_below_at}
use Rattle.std.proofs.lemmas.List.{append_assoc, append-nil, take_all}
use Rattle.std.proofs.lemmas.Bool.Decides.{nat_tests}
use Rattle.hex.specs.Hex.{decode_of, decode_pairs, digit_or_error, hex_digit_value, ◌>>=◌}
use Rattle.hex.specs.declared.error.FromHexError.{FromHexError}
use Rattle.a2_formats.specs.declared.fault.FormatFault.{FormatFault}
use Rattle.a2_formats.specs.declared.fault.FormatFault.TheVariants.{At}
use Rattle.a2_formats.specs.declared.fault.Flaw.TheVariants.{Digits}
use Rattle.a2_formats.specs.Digits.{digit_value}
use Rattle.a2_formats.specs.Reading.{in_pairs}
use Rattle.a2_formats.specs.declared.digits.TheConstants.{DIGIT_VALUES}

-- the bytes after others, if there are any
abbrev pub after_front : List ℕ → Result (List ℕ) FormatFault → Result (List ℕ) FormatFault
after_front front (Ok bytes) = Ok (front ++ bytes)
after_front front (Err fault) = Err fault

-- the bytes of pairs of digits in line n
unfoldable pub pairs : ℕ → List ℕ → Result (List ℕ) FormatFault
pairs n [] = Ok []
pairs n (c ∷ []) = Err (At n Digits)
pairs n (high ∷ low ∷ rest) =
    if nat_lt 15 (digit_value high) || nat_lt 15 (digit_value low) then Err (At n Digits)
    else after_front ((digit_value high * 16 + digit_value low) ∷ []) (pairs n rest)

digit_small : (c : ℕ) → IfSome (hex_digit_value c) (λ v. v ≤ 15)
digit_small c = grind (arith, nat_tests)

-- one pair, given the values of its digits and the bytes of the pairs after it
one_pair : (n i high low : ℕ) (h l : Option ℕ) (r : Result (List ℕ) FromHexError) → IfSome h (λ v. v ≤ 15) → IfSome l (λ v. v ≤ 15)
    → in_pairs n ((digit_or_error high i h >>= (λ a. digit_or_error low (i + 1) l >>= (λ b. Ok (a * 16 + b)))) >>= (λ byte. r >>= (λ bytes. Ok (byte ∷ bytes))))
    ≡ (if nat_lt 15 (unwrap_or h 16) || nat_lt 15 (unwrap_or l 16) then Err (At n Digits) else after_front ((unwrap_or h 16 * 16 + unwrap_or l 16) ∷ []) (in_pairs n r))
one_pair n i high low None l r hs ls = refl
one_pair n i high low (Some a) None r hs ls = rw (le-ltb 15 a hs) refl
one_pair n i high low (Some a) (Some b) (Ok bytes) hs ls = rw (le-ltb 15 a hs, le-ltb 15 b ls) refl
one_pair n i high low (Some a) (Some b) (Err e) hs ls = rw (le-ltb 15 a hs, le-ltb 15 b ls) refl

pairs_decoded : (n i : ℕ) (text : List ℕ) → in_pairs n (decode_pairs i text) ≡ pairs n text
unfolding decode_pairs pairs
pairs_decoded n i [] = refl
pairs_decoded n i (c ∷ []) = refl
pairs_decoded n i (high ∷ low ∷ rest) =
    one_pair n i high low _ _ (decode_pairs (i + 2) rest) (digit_small high) (digit_small low)
    ∙ ap (λ r. if nat_lt 15 (digit_value high) || nat_lt 15 (digit_value low) then Err (At n Digits) else after_front ((digit_value high * 16 + digit_value low) ∷ []) r) (pairs_decoded n (i + 2) rest)

odd_pairs : (n : ℕ) (text : List ℕ) → length text % 2 ≡ 1 → pairs n text ≡ Err (At n Digits)
unfolding pairs
odd_pairs n [] odd = absurd (omega (arith, odd))
odd_pairs n (c ∷ []) odd = refl
odd_pairs n (high ∷ low ∷ rest) odd =
    rw (odd_pairs n rest (omega (arith, odd))) (cond_both (nat_lt 15 (digit_value high) || nat_lt 15 (digit_value low)) _ _ (λ x. x ≡ Err (At n Digits)) (λ _. refl) (λ _. refl))

pub decoded : (n : ℕ) (text : List ℕ) → in_pairs n (decode_of text) ≡ pairs n text
decoded n text = cond_both (eqb (length text % 2) 1) _ _ (λ x. in_pairs n x ≡ pairs n text) (λ odd. sym (odd_pairs n text (eqb-true _ 1 odd))) (λ _. pairs_decoded n 0 text)

pub after_none : (r : Result (List ℕ) FormatFault) → after_front [] r ≡ r
after_none (Ok bytes) = refl
after_none (Err fault) = refl

pub after_both : (front bytes : List ℕ) (r : Result (List ℕ) FormatFault) → after_front front (after_front bytes r) ≡ after_front (front ++ bytes) r
after_both front bytes (Ok others) = ap Ok (sym (append_assoc front bytes others))
after_both front bytes (Err fault) = refl

pub digit_at : (c : ℕ) → c < 256 → get_or DIGIT_VALUES c 0 ≡ digit_value c
digit_at c lt = eqb-true _ _ (agree_below_at (λ i. eqb (get_or DIGIT_VALUES i 0) (digit_value i)) (λ _. true) 256 c refl lt)

-- the first pair, and those after it
first_pair : (n : ℕ) (text : List ℕ) → 2 ≤ length text
    → pairs n text
    ≡ (if nat_lt 15 (digit_value (get_or text 0 0)) || nat_lt 15 (digit_value (get_or text 1 0)) then Err (At n Digits)
    else after_front ((digit_value (get_or text 0 0) * 16 + digit_value (get_or text 1 0)) ∷ []) (pairs n (take (length text - 2) (drop 2 text))))
unfolding pairs
first_pair n [] two = absurd (omega (arith, two))
first_pair n (c ∷ []) two = absurd (omega (arith, two))
first_pair n (high ∷ low ∷ rest) two =
    let all : take (length (high ∷ low ∷ rest) - 2) rest ≡ rest = take_all _ rest (omega arith) in
    ap (λ r. if nat_lt 15 (digit_value high) || nat_lt 15 (digit_value low) then Err (At n Digits) else after_front ((digit_value high * 16 + digit_value low) ∷ []) (pairs n r)) (sym all)

-- the first pair has a character that is no digit
pub pairs_wrong : (n : ℕ) (text : List ℕ) (high low : ℕ) → 2 ≤ length text → high ≡ digit_value (get_or text 0 0) → low ≡ digit_value (get_or text 1 0)
    → (nat_lt 15 high || nat_lt 15 low) ≡ true → pairs n text ≡ Err (At n Digits)
pairs_wrong n text high low two h l is = first_pair n text two ∙ rw (← h, ← l, is) refl

-- the first pair is a byte
pub pairs_byte : (n : ℕ) (front text rest : List ℕ) (high low : ℕ) → 2 ≤ length text → high ≡ digit_value (get_or text 0 0) → low ≡ digit_value (get_or text 1 0)
    → (nat_lt 15 high || nat_lt 15 low) ≡ false → rest ≡ take (length text - 2) (drop 2 text)
    → after_front front (pairs n text) ≡ after_front (front ++ (high * 16 + low) ∷ []) (pairs n rest)
pairs_byte n front text rest high low two h l is after =
    ap (after_front front) (first_pair n text two ∙ rw (← h, ← l, ← after, is) refl) ∙ after_both front ((high * 16 + low) ∷ []) (pairs n rest)

-- nothing is left
pub pairs_end : (n : ℕ) (front text : List ℕ) → length text ≡ 0 → after_front front (pairs n text) ≡ Ok front
unfolding pairs
pairs_end n front [] none = ap Ok (append-nil front)
pairs_end n front (c ∷ text) none = absurd (omega (arith, none))

-- one character is left
pub pairs_half : (n : ℕ) (front text : List ℕ) → 0 < length text → length text < 2 → after_front front (pairs n text) ≡ Err (At n Digits)
unfolding pairs
pairs_half n front [] some few = absurd (omega (arith, some))
pairs_half n front (c ∷ []) some few = refl
pairs_half n front (c ∷ d ∷ text) some few = absurd (omega (arith, few))

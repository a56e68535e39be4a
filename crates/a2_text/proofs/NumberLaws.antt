-- Digits whose value is too large.
use Rattle.std.proofs.Common.{◌≡◌, ℕ, ◌+◌, ◌*◌, ◌<◌, ◌≤◌, ◌&&◌, ltb, leb, List, [], ◌∷◌, length, get_or, drop, fold, sym, Some, None, arith}
use Rattle.std.proofs.Math.Nat.{mul-le-mul_left}
use Rattle.std.specs.List.{list_all}
use Rattle.std.proofs.lemmas.Bool.{cond-false, and_right, le-ltb}
use Rattle.std.proofs.lemmas.List.{at_drop_more}
use Rattle.a2_text.specs.Bytes.{is_digit_in, digit, value_of_digits, number_in}

fold_grows : (base : ℕ) → 1 ≤ base → (ys : List ℕ) (n : ℕ) → n ≤ fold (λ n c. n * base + digit c) n ys
fold_grows base h [] n = omega arith
fold_grows base h (y ∷ ys) n = omega (arith, mul-le-mul_left n h, fold_grows base h ys (n * base + digit y))

number_in-large : (base most : ℕ) (digits : List ℕ) → 65535 < value_of_digits base digits → None ≡ number_in base most digits
number_in-large base most digits h =
    sym (cond-false _ (Some (value_of_digits base digits)) None (and_right (ltb 0 (length digits) && leb (length digits) most && list_all (is_digit_in base) digits) _ (le-ltb (value_of_digits base digits) 65536 (omega arith))))

-- once the value is too large, more digits do not make it smaller
pub number_in-grown : (base most n i : ℕ) (digits : List ℕ) → 1 ≤ base → i < length digits → fold (λ n c. n * base + digit c) n (drop i digits) ≡ value_of_digits base digits → 65535 < n * base + digit (get_or digits i 0) → None ≡ number_in base most digits
number_in-grown base most n i digits h lt is large =
    let step = at_drop_more (fold (λ n c. n * base + digit c) n) digits i 0 lt in
    let grows = fold_grows base h (drop (i + 1) digits) (n * base + digit (get_or digits i 0)) in
    number_in-large base most digits (omega (arith, step, grows, is, large))

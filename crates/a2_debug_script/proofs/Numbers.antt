-- Digits whose value is too large.
use Rattle.std.proofs.Common.{◌≡◌, ℕ, ◌+◌, ◌*◌, ◌<◌, ◌≤◌, List, [], ◌∷◌, length, get_or, drop, fold, None, arith}
use Rattle.std.proofs.lemmas.Bool.Decides.{nat_tests}
use Rattle.std.proofs.lemmas.List.{at_drop_more}
use Rattle.a2_text.specs.Bytes.{digit, value_of_digits}
use Rattle.a2_debug_script.specs.Lines.{number_of}

fold_grows : (ys : List ℕ) (n : ℕ) → n ≤ fold (λ n c. n * 10 + digit c) n ys
fold_grows [] n = omega arith
fold_grows (y ∷ ys) n = omega (arith, fold_grows ys (n * 10 + digit y))

pub number_of-grown : (n i : ℕ) (digits : List ℕ) → i < length digits → fold (λ n c. n * 10 + digit c) n (drop i digits) ≡ value_of_digits 10 digits
    → 4294967295 < n * 10 + digit (get_or digits i 0) → None ≡ number_of digits
unfolding number_of
number_of-grown n i digits lt is large =
    let step = at_drop_more (fold (λ n c. n * 10 + digit c) n) digits i 0 lt in
    let grows = fold_grows (drop (i + 1) digits) (n * 10 + digit (get_or digits i 0)) in
    let over : 4294967295 < value_of_digits 10 digits = omega (arith, step, grows, is, large) in
    grind (arith, nat_tests, over)

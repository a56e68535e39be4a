-- Rows one after another.
use Rattle.std.specs.Prelude.{◌≡◌, ℕ, zero, suc, ◌+◌, ◌<◌, ◌≤◌, true, List, [], ◌∷◌, drop, length, map, refl}
use Rattle.std.specs.Borrow.{Bor}
use Rattle.std.proofs.Common.{arith, ◌∙◌, ap, sym, get_or}
use Rattle.std.proofs.Math.Nat.{suc-add}
use Rattle.std.proofs.Math.Seq.{drop-nil}
use Rattle.std.proofs.lemmas.List.{drop_more}
use Rattle.a2_tests.specs.declared.line.NumberedLine.{NumberedLine}
use Rattle.a2_tests.specs.declared.rows.RowKind.{RowKind}
use Rattle.a2_tests.specs.Rows.{after_row, first_row, fits, row_count, rows_fit}

pub following-drop : (lines : List NumberedLine) (used : ℕ) → after_row (drop used lines) ≡ drop (used + row_count (drop used lines)) lines
following-drop [] zero = refl
following-drop [] (suc n) = sym (drop-nil _)
following-drop (asked ∷ rest) zero = grind arith
following-drop (asked ∷ rest) (suc n) = rw (suc-add n (row_count (drop n rest))) (following-drop rest n)

pub within-row : (lines : List NumberedLine) (used : ℕ) → used ≤ length lines → used + row_count (drop used lines) ≤ length lines
within-row [] zero low = omega arith
within-row [] (suc n) low = omega (arith, low)
within-row (asked ∷ rest) zero low = grind arith
within-row (asked ∷ rest) (suc n) low = omega (arith, within-row rest n (omega (arith, low)))

pub rows-step : (kind : RowKind) (lines : List NumberedLine) (used i n : ℕ) (items : List (Bor (List ℕ))) (d : Bor (List ℕ)) → i < length items
    → fits kind (first_row (drop used lines)) (get_or items i d).now ≡ true → n ≡ row_count (drop used lines)
    → rows_fit kind (drop used lines) (map (λ x. x.now) (drop i items)) ≡ rows_fit kind (drop (used + n) lines) (map (λ x. x.now) (drop (i + 1) items))
rows-step kind lines used i n items d low fitting is =
    ap (λ (xs : List (Bor (List ℕ))). rows_fit kind (drop used lines) (map (λ x. x.now) xs)) (drop_more items i d low)
    ∙ rw (fitting, is) (ap (λ (rest : List NumberedLine). rows_fit kind rest (map (λ x. x.now) (drop (i + 1) items))) (following-drop lines used))

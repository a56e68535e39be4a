-- One more row.
use Rattle.std.proofs.Common.{◌≡◌, ◌∙◌, ℕ, ◌+◌, ◌-◌, ◌<◌, ◌≤◌, zero, suc, List, [], ◌++◌, Option, refl, sym, ap, arith}
use Rattle.std.proofs.lemmas.List.{append_assoc, append-nil}
use Rattle.a2_hex.specs.Images.{ram_end}
use Rattle.a2_diff.specs.declared.rows.Row.{Row}
use Rattle.a2_diff.specs.Rows.{rows_at, rows_from, after}

pub rows_none : (image : ℕ → Option ℕ) (at : ℕ) → rows_from image at 0 ≡ []
unfolding rows_from
rows_none image at = refl

pub rows_step : (image : ℕ → Option ℕ) (at n : ℕ) → 0 < n → rows_from image at n ≡ rows_at image at ++ rows_from image (after image at) (n - 1)
unfolding rows_from
rows_step image at zero some = absurd (omega arith)
rows_step image at (suc n) some = let e : suc n - 1 ≡ n = omega arith in rw e refl

-- the rows so far with those that are left, after one more address or row
pub rows-next : (image : ℕ → Option ℕ) (items new all : List Row) (at next i : ℕ) → i < ram_end → next ≡ after image at → new ≡ items ++ rows_at image at
    → items ++ rows_from image at (ram_end - i) ≡ all → new ++ rows_from image next (ram_end - (i + 1)) ≡ all
rows-next image items new all at next i low next-is new-is before =
    let count : ram_end - (i + 1) ≡ ram_end - i - 1 = omega arith in
    rw (next-is, new-is, count)
    (append_assoc items (rows_at image at) (rows_from image (after image at) (ram_end - i - 1))
    ∙ (ap (λ ys. items ++ ys) (sym (rows_step image at (ram_end - i) (omega (arith, low)))) ∙ before))

-- at the end no rows are left
pub rows-end : (image : ℕ → Option ℕ) (items all : List Row) (at i : ℕ) → ram_end ≤ i → items ++ rows_from image at (ram_end - i) ≡ all → items ≡ all
rows-end image items all at i ge before =
    let none : ram_end - i ≡ 0 = omega (arith, ge) in
    sym (append-nil items) ∙ (sym (ap (λ n. items ++ rows_from image at n) none ∙ ap (λ ys. items ++ ys) (rows_none image at)) ∙ before)

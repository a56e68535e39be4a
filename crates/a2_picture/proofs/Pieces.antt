-- Pieces for consecutive numbers, one after another.
use Rattle.std.proofs.Common.{◌≡◌, ℕ, suc, ◌+◌, ◌-◌, ◌<◌, ◌≤◌, List, [], ◌∷◌, ◌++◌, ap, ◌∙◌, arith, refl}
use Rattle.std.specs.List.{flat_map}
use Rattle.a2_page.specs.Cells.{numbers_from}
use Rattle.a2_picture.specs.declared.checksums.Sums.{Sums}
use Rattle.a2_picture.specs.Checksums.{sums_after, sums_byte}
use Rattle.a2_picture.specs.Png.{pieces}

-- the next piece, and those that are left
counted-more : (f : ℕ → List ℕ) (first left count : ℕ) → count ≡ suc left → pieces f first count ≡ f first ++ pieces f (suc first) left
unfolding pieces
counted-more f first left count is = ap (λ n. flat_map f (numbers_from first n)) is

pub next_piece : (f : ℕ → List ℕ) (end first : ℕ) → first < end
    → pieces f first (end - first) ≡ f first ++ pieces f (first + 1) (end - (first + 1))
next_piece f end first l =
    let next : suc first ≡ first + 1 = omega arith in
    counted-more f first (end - (first + 1)) (end - first) (omega (arith, l))
    ∙ ap (λ n. f first ++ pieces f n (end - (first + 1))) next

-- nothing is left
nothing-counted : (f : ℕ → List ℕ) (first count : ℕ) → count ≡ 0 → pieces f first count ≡ []
unfolding pieces
nothing-counted f first count is = ap (λ n. flat_map f (numbers_from first n)) is

pub no_piece : (f : ℕ → List ℕ) (end first : ℕ) → end ≤ first → pieces f first (end - first) ≡ []
no_piece f end first l = nothing-counted f first (end - first) (omega (arith, l))

-- the sums of bytes and more bytes
pub sums-append : (sums : Sums) (xs ys : List ℕ) → sums_after sums (xs ++ ys) ≡ sums_after (sums_after sums xs) ys
sums-append sums [] ys = refl
sums-append sums (x ∷ xs) ys = sums-append (sums_byte sums x) xs ys

-- The rows of a table, one after another.
use Rattle.std.specs.Prelude.{◌≡◌, ℕ, suc, ◌+◌, ◌-◌, ◌<◌, ◌==◌, Bool, true, false, if◌then◌else◌, find, slice_get, Some, List, [], ◌∷◌, ◌++◌, length, map, drop, Option, refl}
use Rattle.std.specs.Borrow.{Bor}
use Rattle.std.proofs.Common.{sym, ap, ◌∙◌, arith, get_or, option_map}
use Rattle.std.proofs.lemmas.List.{length-map, get_or-map, drop_more}
use Rattle.std.proofs.lemmas.Option.{get_or_from_slice_get, slice_get-map, slice_get_within}
use Rattle.a2_asm.specs.declared.program.Statement.{Statement}
use Rattle.a2_profile.specs.declared.profile.Count.{Count}
use Rattle.a2_symbols.specs.Statements.{instruction_on}
use Rattle.a2_profile.specs.Table.{line_row, line_rows, rows_from, never_row, never_rows}

-- the rows from a line on
pub lines-next : (counts : List Count) (statements : List Statement) (n i : ℕ) (items : List (Bor (List ℕ))) (d : Bor (List ℕ)) (own : Option Statement)
    → own ≡ instruction_on statements n → i < length items
    → line_rows counts statements n (drop i (map (λ x. x.now) items))
    ≡ line_row counts own n (get_or items i d).now ++ line_rows counts statements (n + 1) (drop (i + 1) (map (λ x. x.now) items))
lines-next counts statements n i items d own is_own low =
    let now = λ (x : Bor (List ℕ)). x.now in
    let count = length-map items now in
    let rest = drop (i + 1) (map now items) in
    ap (λ (texts : List (List ℕ)). line_rows counts statements n texts)
    (drop_more (map now items) i [] (omega (arith, count, low)) ∙ ap (λ (line : List ℕ). line ∷ rest) (get_or-map now items i d [] low))
    ∙ ap (λ (o : Option Statement). line_row counts o n (get_or items i d).now ++ line_rows counts statements (n + 1) rest) (sym is_own)

-- the rows from an address on
pub rows-next : (row_of : ℕ → List ℕ) (i end : ℕ) → i < end → rows_from row_of i (end - i) ≡ row_of i ++ rows_from row_of (i + 1) (end - (i + 1))
unfolding rows_from
rows-next row_of i end low =
    let more : end - i ≡ suc (end - (i + 1)) = omega (arith, low) in
    ap (rows_from row_of i) more

pub rows-over : (row_of : ℕ → List ℕ) (i left : ℕ) → left ≡ 0 → rows_from row_of i left ≡ []
unfolding rows_from
rows-over row_of i left none = ap (rows_from row_of i) none

-- the rows from a statement on
pub never-next : (counts : List Count) (texts : List (List ℕ)) (statements : List Statement) (i : ℕ) (d : Statement) → i < length statements
    → never_rows counts texts (drop i statements) ≡ never_row counts texts (get_or statements i d) ++ never_rows counts texts (drop (i + 1) statements)
never-next counts texts statements i d low = ap (λ (l : List Statement). never_rows counts texts l) (drop_more statements i d low)

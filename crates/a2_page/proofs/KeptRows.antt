-- Rows of a kept copy of a page.
use Rattle.std.specs.Prelude.{◌≡◌, ◌⊎◌, ℕ, ◌+◌, ◌<◌, ◌≤◌, List, [], length, slice_index, slice_index_or, slice_set, drop, ◌↔◌, Bool, true, false, Option, Some, None, option_map, refl}
use Rattle.std.proofs.Common.{sym, ap, ◌∙◌, arith, inl, inr}
use Rattle.std.proofs.lemmas.List.{ext_get_or, places, get_or-set_same, get_or-set_other}
use Rattle.std.proofs.lemmas.Slice.{drop-put_mid}
use borrow.Rule.Slice.PartMut.{put_mid}
use Rattle.a2_page.specs.declared.Page.{Page}
use Rattle.a2_page.specs.Cells.{Cell, cell_at, row_offset}
use Rattle.a2_page.specs.Grid.{Grid, IsGrid}
use Rattle.a2_page.specs.Kept.{KeptPicture, IsStale, is_row_marked}
use Rattle.a2_page.specs.Picture.{page_grid}
use Rattle.a2_page.proofs.Finding.{cell_at-stands}
use Rattle.a2_page.proofs.GridLemmas.{same_or_not, row-set, IsGrid-set}
use Rattle.a2_page.proofs.PageRows.{page_grid-is_grid, page_grid-byte, page_grid_is}

-- a page with one of its rows replaced by a row of another page
pub row_taken : (bytes cells : List ℕ) (row start : ℕ) → row < 24 → length bytes ≡ 1024 → length cells ≡ 40 → start ≡ row_offset row
    → page_grid (put_mid start 40 bytes cells) ≡ slice_set (page_grid bytes) row cells
row_taken bytes cells row start row_ok size forty at =
    page_grid_is (put_mid start 40 bytes cells) _ (IsGrid-set (page_grid bytes) row cells g row_ok forty) (λ r c r_ok c_ok. elim (same_or_not r row) [
      | inl same ↦ rw (same, row-set (page_grid bytes) row cells g row_ok, ← at) (grind (arith, places))
      | inr other ↦ rw (get_or-set_other (page_grid bytes) row r cells [] other, page_grid-byte bytes r c r_ok c_ok) (beside (row_offset r + c) (grind (arith)))
    ])
  where
    g : IsGrid (page_grid bytes)
    g = page_grid-is_grid bytes

    beside : (place : ℕ) → (place < start) ⊎ (start + 40 ≤ place) → slice_index (put_mid start 40 bytes cells) place ≡ slice_index bytes place
    beside place (inl lt) = grind (arith, places)
    beside place (inr le) = at_drop (put_mid start 40 bytes cells) ∙ ap (λ xs. slice_index xs 0) (drop-put_mid start 40 bytes cells place le (omega arith) forty) ∙ sym (at_drop bytes)
      where
        at_drop : (xs : List ℕ) → slice_index xs place ≡ slice_index (drop place xs) 0
        at_drop xs = grind (arith, places)

-- the rows below a number, and all rows without a mark, are those of the page
abbrev pub Reached : ℕ → List Bool → Grid → Grid → Type 0
Reached k marks rows page =
    (r : ℕ) → r < 24 → (r < k) ⊎ (slice_index_or marks r false ≡ false) → slice_index_or rows r [] ≡ slice_index_or page r []

pub reached-taken : (k : ℕ) (marks : List Bool) (rows new page : Grid) → length rows ≡ 24 → k < 24 → new ≡ slice_set rows k (slice_index_or page k [])
    → Reached k marks rows page → Reached (k + 1) marks new page
reached-taken k marks rows new page high lt is reached r r_ok why = elim (same_or_not r k) [
  | inl same ↦ rw (is, same) (get_or-set_same rows k (slice_index_or page k []) [] (rw high lt))
  | inr other ↦ rw (is, get_or-set_other rows k r (slice_index_or page k []) [] other) (reached r r_ok (elim why [ inl less ↦ inl (grind arith) | inr clear ↦ inr clear ]))
]

pub reached-left : (k : ℕ) (marks : List Bool) (rows page : Grid) → slice_index_or marks k false ≡ false
    → Reached k marks rows page → Reached (k + 1) marks rows page
reached-left k marks rows page unmarked reached r r_ok why = elim (same_or_not r k) [
  | inl same ↦ reached r r_ok (inr (rw same unmarked))
  | inr other ↦ reached r r_ok (elim why [ inl less ↦ inl (grind arith) | inr clear ↦ inr clear ])
]

pub reached-all : (marks : List Bool) (bytes page : List ℕ) → Reached 24 marks (page_grid bytes) (page_grid page) → page_grid bytes ≡ page_grid page
reached-all marks bytes page reached =
    let high = (page_grid-is_grid bytes).height in
    ext_get_or [] _ _ (high ∙ sym (page_grid-is_grid page).height) (λ i lt. let small : i < 24 = omega arith in reached i small (inl small))

-- the rows below a number are compared with a page, and the marks of the other rows are unchanged
pub record ComparedTo (k : ℕ) (page : Grid) (old new : KeptPicture) : Type 0 where
  pub rows : new.rows ≡ old.rows
  pub marked : (r : ℕ) → r < k → r < 24 → (is_row_marked new r ≡ true) ↔ IsStale old page r
  pub rest : (r : ℕ) → k ≤ r → is_row_marked new r ≡ is_row_marked old r

abbrev place_of : Cell → Page × ℕ × ℕ
place_of cell = (cell.page, cell.row, cell.column)

-- a cell that is found is in one of the 24 rows
pub found_row : (address : ℕ) (page : Page) (row column : ℕ) → option_map place_of (cell_at address) ≡ Some (page, row, column) → row < 24
found_row address page row column is = go (cell_at address) refl is
  where
    go : (found : Option Cell) → cell_at address ≡ found → option_map place_of found ≡ Some (page, row, column) → row < 24
    go None at e = cc
    go (Some cell) at e =
        let same : place_of cell ≡ (page, row, column) = cc in
        rw (← ap (λ (place : Page × ℕ × ℕ). place.1) same) (cell_at-stands address cell at).row_ok

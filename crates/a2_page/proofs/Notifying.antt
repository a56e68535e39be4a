-- A picture still fits if each change is reported to it.
use Rattle.std.specs.Prelude.{◌≡◌, ◌≢◌, ℕ, ◌<◌, true, false, [], ◌∷◌, length, slice_index_or, slice_set, Option, Some, None, refl}
use Rattle.std.proofs.Common.{sym, ◌∙◌, inl, inr}
use Rattle.std.proofs.lemmas.List.{get_or-set_same, get_or-set_other, length-set, length-replicate, get_or-replicate}
use Rattle.std.proofs.lemmas.Bool.{cases_Bool}
use Rattle.a2_page.specs.declared.Page.{Page}
use Rattle.a2_page.specs.declared.Page.TheVariants.{One, Two}
use Rattle.a2_page.specs.Cells.{Cell, cell_at}
use Rattle.a2_page.specs.Grid.{Grid}
use Rattle.a2_page.specs.Kept.{KeptPicture, FitsPage, after_switch}
use Rattle.a2_page.specs.Notified.{Screen, shown_on, byte_stored, switches_set, with_cell, NotifiedPicturesFit}
use Rattle.a2_page.proofs.Finding.{cell_at-stands}
use Rattle.a2_page.proofs.GridLemmas.{same_or_not}

-- the picture with a mark at one row
abbrev with_mark : ℕ → KeptPicture → KeptPicture
with_mark row kept = record kept { marks = slice_set kept.marks row true }

-- the pages differ only in that row
abbrev SameBut : ℕ → Grid → Grid → Type 0
SameBut row old new = (r : ℕ) → r ≢ row → slice_index_or new r [] ≡ slice_index_or old r []

fits-marked : (kept : KeptPicture) (row : ℕ) (old new : Grid) → row < 24 → length kept.marks ≡ 24 → SameBut row old new
    → FitsPage kept old → FitsPage (with_mark row kept) new
fits-marked kept row old new row_ok size same fits r r_ok clear = elim (same_or_not r row) [
  | inl is ↦ (let marked = get_or-set_same kept.marks row true false (rw size row_ok) in cc)
  | inr other ↦ fits r r_ok (sym (get_or-set_other kept.marks row r true false other) ∙ clear) ∙ sym (same r other)
]

-- the shown page after a store at a cell
shown_but : (page : Page) (row column byte : ℕ) (screen : Screen) → SameBut row (shown_on screen) (shown_on (with_cell page row column byte screen))
shown_but One row column byte screen r other = elim (cases_Bool screen.switches.page2) [
  | inl second ↦ rw second
  | inr first ↦ rw (first, get_or-set_other screen.page1 row r _ [] other)
]
shown_but Two row column byte screen r other = elim (cases_Bool screen.switches.page2) [
  | inl second ↦ rw (second, get_or-set_other screen.page2 row r _ [] other)
  | inr first ↦ rw first
]

abbrev stored_screen : ℕ → Screen → Option Cell → Screen
stored_screen byte screen found =
    elim found as (λ _. Screen) [ Some cell ↦ with_cell cell.page cell.row cell.column byte screen | None ↦ screen ]

abbrev stored_marks : KeptPicture → Option Cell → KeptPicture
stored_marks kept found = elim found as (λ _. KeptPicture) [ None ↦ kept | Some cell ↦ with_mark cell.row kept ]

fits-stored : (address byte : ℕ) (screen : Screen) (kept : KeptPicture) → length kept.marks ≡ 24 → FitsPage kept (shown_on screen) → (found : Option Cell) → cell_at address ≡ found
    → (length (stored_marks kept found).marks ≡ 24) × FitsPage (stored_marks kept found) (shown_on (stored_screen byte screen found))
fits-stored address byte screen kept size fits None is = (size, fits)
fits-stored address byte screen kept size fits (Some cell) is = (
  length-set kept.marks cell.row true ∙ size,
  fits-marked kept cell.row (shown_on screen) _ (cell_at-stands address cell is).row_ok size (shown_but cell.page cell.row cell.column byte screen) fits,
)

-- every row is marked, so nothing is required of the page
pub fits-switched : (kept : KeptPicture) (page : Grid) → FitsPage (after_switch kept) page
fits-switched kept page r r_ok clear = (let marked = get_or-replicate 24 r true false r_ok in cc)

pub notified_pictures_fit : NotifiedPicturesFit
notified_pictures_fit [] screen kept size fits = fits
notified_pictures_fit (byte_stored address byte ∷ changes) screen kept size fits =
    let (n, fit) = fits-stored address byte screen kept size fits (cell_at address) refl in
    notified_pictures_fit changes _ _ n fit
notified_pictures_fit (switches_set switches ∷ changes) screen kept size fits = notified_pictures_fit changes _ _ (length-replicate 24 true) (fits-switched kept _)

-- A kept picture to which every store and every setting of the switches is reported. This project's profile.
use Rattle.std.specs.Prelude.{◌≡◌, ℕ, List, [], ◌∷◌, length, Some, None}
use Rattle.a2_page.specs.declared.Page.{Page}
use Rattle.a2_page.specs.declared.Page.TheVariants.{One, Two}
use Rattle.a2_page.specs.declared.Switches.{Switches}
use Rattle.a2_page.specs.Cells.{cell_at}
use Rattle.a2_page.specs.Grid.{Grid, with_byte}
use Rattle.a2_page.specs.Kept.{KeptPicture, FitsPage, with_row_marked, after_switch}
use Rattle.a2_page.specs.Picture.{shown_page}

-- the parts that decide what a screen shows
pub record Screen : Type 0 where
  pub switches : Switches
  pub page1 : Grid
  pub page2 : Grid

abbrev pub shown_on : Screen → Grid
shown_on screen = shown_page screen.switches screen.page1 screen.page2

-- a byte is stored at an address, or the switches are set
pub data Change : Type 0 where
  byte_stored : (address byte : ℕ) → Change
  switches_set : Switches → Change

abbrev pub with_cell : Page → ℕ → ℕ → ℕ → Screen → Screen
with_cell One row column byte screen = record screen { page1 = with_byte screen.page1 row column byte }
with_cell Two row column byte screen = record screen { page2 = with_byte screen.page2 row column byte }

-- the screen after a change
abbrev pub changed : Change → Screen → Screen
changed (byte_stored address byte) screen =
    elim (cell_at address) as (λ _. Screen) [ Some cell ↦ with_cell cell.page cell.row cell.column byte screen | None ↦ screen ]
changed (switches_set switches) screen = record screen { switches = switches }

-- the picture after the change is reported to it
abbrev pub notified : Change → KeptPicture → KeptPicture
notified (byte_stored address byte) kept = with_row_marked address kept
notified (switches_set switches) kept = after_switch kept

abbrev pub all_changed : List Change → Screen → Screen
all_changed [] screen = screen
all_changed (change ∷ changes) screen = all_changed changes (changed change screen)

abbrev pub all_notified : List Change → KeptPicture → KeptPicture
all_notified [] kept = kept
all_notified (change ∷ changes) kept = all_notified changes (notified change kept)

-- a picture with 24 marks that fits still fits after any changes, if each of them is reported to it
abbrev pub NotifiedPicturesFit : Type 0
NotifiedPicturesFit =
    (changes : List Change) (screen : Screen) (kept : KeptPicture) → length kept.marks ≡ 24 → FitsPage kept (shown_on screen)
    → FitsPage (all_notified changes kept) (shown_on (all_changed changes screen))

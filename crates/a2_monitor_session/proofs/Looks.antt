-- The copy of a screen, and when another screen is the same.
use Rattle.std.specs.Prelude.{◌↔◌, slice_index_or, ◌&&◌}
use Rattle.std.proofs.Common.{◌≡◌, ℕ, ◌<◌, Bool, true, false, [], refl, sym, ap, ap₂, ◌∙◌, subst}
use Rattle.std.proofs.lemmas.Bool.{and_parts, and_from}
use Rattle.std.proofs.lemmas.List.{get_or-replicate}
use Rattle.std.proofs.Math.Bool.{beq}
use Rattle.a2_page.specs.declared.View.{View}
use Rattle.a2_page.specs.declared.Switches.{Switches}
use Rattle.a2_page.specs.Grid.{Grid}
use Rattle.a2_page.specs.Kept.{KeptPicture, FitsPage, is_row_marked, after_refresh}
use Rattle.a2_page.specs.Picture.{shown_by}
use Rattle.a2_bus.specs.View.{memory_of}
use Rattle.a2_bus.proofs.Showing.{IsView, page_seen}
use Rattle.a2_machine.specs.State.{MachineState, world_of_state}
use Rattle.a2_monitor_session.specs.Screens.{Screen, IsSameScreen, screen_of}

abbrev screen_with : Grid → Switches → Screen
screen_with rows switches = record { rows = rows; switches = switches }

pub look_is : (view : View) (state : MachineState) (rows : Grid) → IsView view state.bus → rows ≡ shown_by view
    → screen_with rows view.switches ≡ screen_of (world_of_state state)
unfolding memory_of
look_is view state rows is e = ap₂ screen_with (e ∙ page_seen view state.bus is) is.switches

-- a cached picture without marks fits a page exactly if it has the page's rows
pub fits_is : (rows : Grid) (kept : KeptPicture) (page : Grid) → kept ≡ after_refresh rows
    → FitsPage kept page ↔ ((row : ℕ) → row < 24 → slice_index_or rows row [] ≡ slice_index_or page row [])
fits_is rows kept page e = (
  λ fits row l. ap (λ (k : KeptPicture). slice_index_or k.rows row []) (sym e) ∙ fits row l (unmarked row l),
  λ same row l _. ap (λ (k : KeptPicture). slice_index_or k.rows row []) e ∙ same row l,
)
  where
    unmarked : (row : ℕ) → row < 24 → is_row_marked kept row ≡ false
    unmarked row l = ap (λ (k : KeptPicture). is_row_marked k row) e ∙ get_or-replicate 24 row false false l

-- so the copy shows whether a screen is the same
pub same_is : (old : Screen) (kept : KeptPicture) (view : View) (state : MachineState) (fits : Bool) → IsView view state.bus
    → kept ≡ after_refresh old.rows → old.switches ≡ view.switches → (fits ≡ true) ↔ FitsPage kept (shown_by view)
    → (fits ≡ true) ↔ IsSameScreen old (screen_of (world_of_state state))
same_is old kept view state fits is e switches fit =
    let there : screen_with (shown_by view) view.switches ≡ screen_of (world_of_state state) = look_is view state (shown_by view) is refl in
    let rows = fits_is old.rows kept (shown_by view) e in (
      λ yes. subst (λ (s : Screen). IsSameScreen old s) there (switches, rows.0 (fit.0 yes)),
      λ same. fit.1 (rows.1 ((subst (λ (s : Screen). IsSameScreen old s) (sym there) same).1)),
    )

-- the same screen has the same switches
pub same_switches : (old : Screen) (view : View) (state : MachineState) → IsView view state.bus
    → IsSameScreen old (screen_of (world_of_state state)) → old.switches ≡ view.switches
unfolding memory_of
same_switches old view state is same = same.0 ∙ sym is.switches

-- the test that two switches are equal
abbrev pub has_same : Switches → Switches → Bool
has_same a b = beq a.text b.text && (beq a.mixed b.mixed && (beq a.page2 b.page2 && beq a.hires b.hires))

beq_same : (a b : Bool) → beq a b ≡ true → a ≡ b
beq_same true true h = refl
beq_same true false h = cc
beq_same false true h = cc
beq_same false false h = refl

beq_self : (a : Bool) → beq a a ≡ true
beq_self true = refl
beq_self false = refl

pub switches_are : (a b : Switches) → has_same a b ≡ true → a ≡ b
switches_are a b h =
    let h1 = and_parts (beq a.text b.text) (beq a.mixed b.mixed && (beq a.page2 b.page2 && beq a.hires b.hires)) h in
    let h2 = and_parts (beq a.mixed b.mixed) (beq a.page2 b.page2 && beq a.hires b.hires) h1.1 in
    let h3 = and_parts (beq a.page2 b.page2) (beq a.hires b.hires) h2.1 in
    let text = beq_same a.text b.text h1.0 in
    let mixed = beq_same a.mixed b.mixed h2.0 in
    let page2 = beq_same a.page2 b.page2 h3.0 in
    let hires = beq_same a.hires b.hires h3.1 in
    λ t. record { text = text t; mixed = mixed t; page2 = page2 t; hires = hires t }

pub switches_same : (a b : Switches) → a ≡ b → has_same a b ≡ true
switches_same a b e = subst (λ (s : Switches). has_same a s ≡ true) e
    (and_from (beq a.text a.text) (beq a.mixed a.mixed && (beq a.page2 a.page2 && beq a.hires a.hires)) (beq_self a.text)
    (and_from (beq a.mixed a.mixed) (beq a.page2 a.page2 && beq a.hires a.hires) (beq_self a.mixed)
    (and_from (beq a.page2 a.page2) (beq a.hires a.hires) (beq_self a.page2) (beq_self a.hires))))

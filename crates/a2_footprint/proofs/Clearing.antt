-- The services that clear a window or page 1: HOME, CLREOL, CLREOP and CLRSCR.
use Rattle.std.specs.Prelude.{◌≡◌, ℕ, ◌+◌, ◌-◌, Bool, List, [], ◌∷◌, ◌++◌, replicate, refl}
use Rattle.std.proofs.Common.{sym, ap, ◌∙◌, subst, arith, inl}
use Rattle.a2_page.specs.Grid.{Window, blank, cleared, with_row_part}
use Rattle.a2_page.specs.Window.{IsWindow}
use Rattle.a2_bus.specs.Locations as at
use Rattle.a2_bus.specs.Memory.{Memory, with_ram}
use Rattle.a2_bus.proofs.Frame.{ram_byte-page1}
use Rattle.a2_services.specs.declared.rows.Service.TheVariants.{Home, Clreol, Clreop, Clrscr}
use Rattle.a2_services.specs.Blocks.{black}
use Rattle.a2_services.specs.Fits.{CursorFits}
use Rattle.a2_services.specs.Put.{window_of, cursor_column, cursor_row, screen_column, with_page1, with_cursor_row, with_cursor_column, with_base_address}
use Rattle.a2_services.specs.Services.{fits, effect, cleared_to_end, cleared_below}
use Rattle.a2_services.proofs.Fitting.{window_kept-page}
use Rattle.a2_services.proofs.Returning.{window_tells, fits_tells}
use Rattle.a2_footprint.specs.Reads.{AgreeOn, Knows, with_bytes}
use Rattle.a2_footprint.specs.Services.{service_reads, service_stores, window_bytes, cursor_bytes, base_bytes, output_bytes, window_cells, cells_across, cells_to_end, cells_below}
use Rattle.a2_footprint.proofs.Cells.{on_screen}
use Rattle.a2_footprint.proofs.Left.{StoresAlike, back_alike}
use Rattle.a2_footprint.proofs.Orders.{stored_swapped}
use Rattle.a2_footprint.proofs.Placing.{SameCursor, same_window, same_cursor, same_window_fits, same_fits, basing}
use Rattle.a2_footprint.proofs.Storing.{Stored, stored_byte, stored_both, knows_more}
use Rattle.a2_footprint.proofs.Windows.{clearing, clearing_below, clearing_to_end, whole, blackening}

-- HOME

homing : (known : ℕ → Bool) (m n : Memory) → AgreeOn known m n → Knows known window_bytes → window_of m ≡ window_of n → IsWindow (window_of m)
    → Stored known (output_bytes ++ window_cells (window_of m)) m n
    (with_base_address (with_cursor_row (window_of m).top (with_cursor_column 0 (with_page1 (cleared (window_of m) m.page1) m))))
    (with_base_address (with_cursor_row (window_of n).top (with_cursor_column 0 (with_page1 (cleared (window_of n) n.page1) n))))
homing known m n agree shown window w_is =
    let P : Window → Type 0 = λ v. Stored known (output_bytes ++ cells) m n
    (with_base_address m3) (with_base_address (with_cursor_row v.top (with_cursor_column 0 (with_page1 (cleared v n.page1) n)))) in
    subst P window
    (stored_swapped known cells output_bytes m n (with_base_address m3) (with_base_address n3)
    (stored_both known cells output_bytes m n m1 n1 (with_base_address m3) (with_base_address n3) one
    (stored_both known1 (at.ch ∷ []) (at.cv ∷ base_bytes) m1 n1 m2 n2 (with_base_address m3) (with_base_address n3) two
    (stored_both known2 (at.cv ∷ []) base_bytes m2 n2 m3 n3 (with_base_address m3) (with_base_address n3) three
    (basing known3 m3 n3 three.agree (same_window known3 m3 n3 three.agree shown3) (three.agree.bytes at.cv (omega arith) refl))))))
  where
    w : Window
    w = window_of m

    cells : List ℕ
    cells = window_cells w

    m1 : Memory
    m1 = with_page1 (cleared w m.page1) m

    n1 : Memory
    n1 = with_page1 (cleared w n.page1) n

    known1 : ℕ → Bool
    known1 = with_bytes cells known

    one : Stored known cells m n m1 n1
    one = clearing known w m n agree w_is.width (on_screen w w_is)

    m2 : Memory
    m2 = with_cursor_column 0 m1

    n2 : Memory
    n2 = with_cursor_column 0 n1

    known2 : ℕ → Bool
    known2 = with_bytes (at.ch ∷ []) known1

    two : Stored known1 (at.ch ∷ []) m1 n1 m2 n2
    two = stored_byte known1 m1 n1 at.ch 0 one.agree

    m3 : Memory
    m3 = with_cursor_row w.top m2

    n3 : Memory
    n3 = with_cursor_row w.top n2

    known3 : ℕ → Bool
    known3 = with_bytes (at.cv ∷ []) known2

    three : Stored known2 (at.cv ∷ []) m2 n2 m3 n3
    three = stored_byte known2 m2 n2 at.cv w.top two.agree

    shown3 : Knows known3 window_bytes
    shown3 =
        knows_more known2 (at.cv ∷ []) window_bytes (knows_more known1 (at.ch ∷ []) window_bytes (knows_more known cells window_bytes shown))

pub home_law : StoresAlike Home
unfolding effect service_reads service_stores
home_law parts known s t h fit looks reads =
    let window : window_of s.memory ≡ window_of t.memory = same_window known s.memory t.memory h.memory reads.1.1 in (
      sym (same_window_fits s.memory t.memory window) ∙ fit,
      back_alike known _ s t _ _ (homing known s.memory t.memory h.memory reads.1.1 window (window_tells s.memory fit)),
      ap (λ w. output_bytes ++ window_cells w) window,
    )

-- CLREOL

same_to_end : (m n : Memory) → SameCursor m n → cells_to_end m ≡ cells_to_end n
same_to_end m n same = λ i. let w : Window = same.window i in cells_across (same.row i) (same.screen i) (w.width - same.column i)

pub clreol_law : StoresAlike Clreol
unfolding effect service_reads service_stores
clreol_law parts known s t h fit looks reads =
    let same : SameCursor s.memory t.memory = same_cursor known s.memory t.memory h.memory reads.1.1 in (
      sym (same_fits s.memory t.memory same) ∙ fit,
      back_alike known _ s t _ _
          (clearing_to_end known s.memory t.memory h.memory same.window same.row same.column (fits_tells s.memory fit)),
      same_to_end s.memory t.memory same,
    )

-- CLREOP

same_below : (m n : Memory) → window_of m ≡ window_of n → cursor_row m ≡ cursor_row n → cells_below m ≡ cells_below n
same_below m n window row = λ i. window_cells (record (window i) { top = row i + 1 })

-- clearing the cursor's row to its end leaves the window and the cursor unchanged
record IsPlaced (m n : Memory) : Type 0 where
  window : window_of n ≡ window_of m
  row : cursor_row n ≡ cursor_row m

to_end_placed : (m : Memory) → IsPlaced m (cleared_to_end m)
unfolding cleared_to_end
to_end_placed m =
    let page = with_row_part m.page1 (cursor_row m) (screen_column m) (replicate ((window_of m).width - cursor_column m) blank) in
    record { window = window_kept-page m page; row = ram_byte-page1 m page at.cv (inl (omega arith)) }

clearing_on : (known : ℕ → Bool) (m n : Memory) → AgreeOn known m n → Knows known cursor_bytes → CursorFits m
    → Stored known (base_bytes ++ cells_to_end m ++ cells_below m) m n
    (with_base_address (cleared_below (cleared_to_end m))) (with_base_address (cleared_below (cleared_to_end n)))
clearing_on known m n agree shown fits =
    stored_swapped known (cells_to_end m ++ cells_below m) base_bytes m n (with_base_address m2) (with_base_address n2)
    (stored_both known (cells_to_end m ++ cells_below m) base_bytes m n m2 n2 (with_base_address m2) (with_base_address n2) both
    (basing known2 m2 n2 both.agree cursor2.window cursor2.row))
  where
    cursor : SameCursor m n
    cursor = same_cursor known m n agree shown

    m1 : Memory
    m1 = cleared_to_end m

    n1 : Memory
    n1 = cleared_to_end n

    known1 : ℕ → Bool
    known1 = with_bytes (cells_to_end m) known

    one : Stored known (cells_to_end m) m n m1 n1
    one = clearing_to_end known m n agree cursor.window cursor.row cursor.column fits

    cursor1 : SameCursor m1 n1
    cursor1 = same_cursor known1 m1 n1 one.agree (knows_more known (cells_to_end m) cursor_bytes shown)

    m2 : Memory
    m2 = cleared_below m1

    n2 : Memory
    n2 = cleared_below n1

    placed : IsPlaced m m1
    placed = to_end_placed m

    two : Stored known1 (cells_below m) m1 n1 m2 n2
    two =
        subst (λ stores. Stored known1 stores m1 n1 m2 n2) (same_below m1 m placed.window placed.row)
        (clearing_below known1 m1 n1 one.agree cursor1.window cursor1.row (subst IsWindow (sym placed.window) fits.line.window))

    both : Stored known (cells_to_end m ++ cells_below m) m n m2 n2
    both = stored_both known (cells_to_end m) (cells_below m) m n m1 n1 m2 n2 one two

    known2 : ℕ → Bool
    known2 = with_bytes (cells_to_end m ++ cells_below m) known

    cursor2 : SameCursor m2 n2
    cursor2 = same_cursor known2 m2 n2 both.agree (knows_more known (cells_to_end m ++ cells_below m) cursor_bytes shown)

pub clreop_law : StoresAlike Clreop
unfolding effect service_reads service_stores
clreop_law parts known s t h fit looks reads =
    let same : SameCursor s.memory t.memory = same_cursor known s.memory t.memory h.memory reads.1.1 in (
      sym (same_fits s.memory t.memory same) ∙ fit,
      back_alike known _ s t _ _ (clearing_on known s.memory t.memory h.memory reads.1.1 (fits_tells s.memory fit)),
      (λ i. base_bytes ++ same_to_end s.memory t.memory same i ++ same_below s.memory t.memory same.window same.row i),
    )

-- CLRSCR

blacking : (known : ℕ → Bool) (m n : Memory) → AgreeOn known m n
    → Stored known (at.color ∷ at.v2 ∷ window_cells whole) m n
    (with_ram (with_ram (with_page1 black m) at.color 0) at.v2 47) (with_ram (with_ram (with_page1 black n) at.color 0) at.v2 47)
blacking known m n agree =
    stored_swapped known cells (at.color ∷ at.v2 ∷ []) m n _ _
    (stored_both known cells (at.color ∷ at.v2 ∷ []) m n m1 n1 _ _ one
    (stored_both known1 (at.color ∷ []) (at.v2 ∷ []) m1 n1 (with_ram m1 at.color 0) (with_ram n1 at.color 0) _ _ two
    (stored_byte (with_bytes (at.color ∷ []) known1) _ _ at.v2 47 two.agree)))
  where
    cells : List ℕ
    cells = window_cells whole

    m1 : Memory
    m1 = with_page1 black m

    n1 : Memory
    n1 = with_page1 black n

    known1 : ℕ → Bool
    known1 = with_bytes cells known

    one : Stored known cells m n m1 n1
    one = blackening known m n agree

    two : Stored known1 (at.color ∷ []) m1 n1 (with_ram m1 at.color 0) (with_ram n1 at.color 0)
    two = stored_byte known1 m1 n1 at.color 0 one.agree

pub clrscr_law : StoresAlike Clrscr
unfolding effect service_stores
clrscr_law parts known s t h fit looks reads =
    (refl, back_alike known _ s t _ _ (blacking known s.memory t.memory h.memory), refl)

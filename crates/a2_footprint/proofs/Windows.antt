-- Windows of page 1 that are scrolled or cleared in two memories.
use Rattle.std.specs.Prelude.{◌≡◌, ◌≢◌, ◌⊎◌, ℕ, ◌+◌, ◌-◌, ◌<◌, ◌≤◌, Bool, true, false, ◌||◌, IsTrue, nat_lt, if◌then◌else◌, List, [], length, slice_index, slice_index_or, slice_range, replicate, take, drop, map, Option, Some, None, refl}
use Rattle.std.specs.List.{flat_map}
use Rattle.std.proofs.Common.{sym, ap, ◌∙◌, subst, arith, inl, inr, true≢false, append-nil}
use Rattle.std.proofs.lemmas.Bool.{cases_lt}
use Rattle.std.proofs.lemmas.Bool.Decides.{nat_tests}
use Rattle.std.proofs.lemmas.List.{length-replicate, ext_get_or}
use Rattle.a2_text.specs.Bytes.{is_among}
use Rattle.a2_page.specs.declared.Page.{Page}
use Rattle.a2_page.specs.declared.Page.TheVariants.{One, Two}
use Rattle.a2_page.specs.Cells.{Cell, cell_at, address_of, numbers_from}
use Rattle.a2_page.specs.Grid.{Grid, IsGrid, Window, byte_in, with_part, with_parts_from, with_row_part, blank, blank_part, scrolled, cleared}
use Rattle.a2_page.specs.Window.{IsWindow}
use Rattle.a2_page.proofs.Finding.{IsCellAtAddress, cell_at-stands}
use Rattle.a2_page.proofs.Parts.{spliced, spliced-length, spliced-before, spliced-in, spliced-after, spliced-none, spliced-whole, range-at, range_long, with_row_part-here, with_row_part-other, with_row_part-height, scrolled-in, scrolled-last, scrolled-out, scrolled-height, cleared-in, cleared-out, cleared-height}
use Rattle.a2_bus.specs.Memory.{Memory, grid, ram_byte, ram_end}
use Rattle.a2_bus.proofs.Viewing.{cell_seen}
use Rattle.a2_services.specs.Blocks.{black}
use Rattle.a2_services.specs.Fits.{CursorFits}
use Rattle.a2_services.specs.Put.{window_of, cursor_row, cursor_column, screen_column, with_page1}
use Rattle.a2_services.specs.Services.{cleared_to_end, cleared_below}
use Rattle.a2_services.proofs.Screens.{black_is}
use Rattle.a2_footprint.specs.Reads.{AgreeOn, Knows}
use Rattle.a2_footprint.specs.Services.{window_cells, cells_across, cells_to_end, cells_below}
use Rattle.a2_footprint.proofs.Agreeing.{shows}
use Rattle.a2_footprint.proofs.Cells.{not_in_among, known_among, IsOnScreen, on_screen, IsCell, IsCovered, window_among, window_cell, window_out}
use Rattle.a2_footprint.proofs.Storing.{Stored}

-- Page 1 replaced

-- an address is that of a cell of page 1, or its byte is unchanged if this page is replaced
pub cell_or_kept : (a : ℕ) → IsCell a ⊎ ((m : Memory) (page : Grid) → ram_byte (with_page1 page m) a ≡ ram_byte m a)
unfolding ram_byte
cell_or_kept a = go (cell_at a) refl
  where
    by_page : (page : Page) (row column : ℕ) → row < 24 → column < 40 → address_of page row column ≡ a
        → IsCell a ⊎ ((m : Memory) (cells : Grid) → byte_in (grid (with_page1 cells m) page) row column ≡ byte_in (grid m page) row column)
    by_page One row column row_ok column_ok is =
        inl (record { row = row; column = column; row_ok = row_ok; column_ok = column_ok; is = is })
    by_page Two row column row_ok column_ok is = inr (λ m cells. refl)

    go : (found : Option Cell) → cell_at a ≡ found
        → IsCell a ⊎ ((m : Memory) (page : Grid) → shows (with_page1 page m) a found ≡ shows m a found)
    go None is = inr (λ m page. refl)
    go (Some cell) is =
        let stands : IsCellAtAddress a cell = cell_at-stands a cell is in
        by_page cell.page cell.row cell.column stands.row_ok stands.column_ok stands.address_is

-- the byte of a cell in a new page
in_page : (m : Memory) (page : Grid) (a : ℕ) (cell : IsCell a) → ram_byte (with_page1 page m) a ≡ byte_in page cell.row cell.column
in_page m page a cell =
    ap (λ k. ram_byte (with_page1 page m) k) (sym cell.is)
    ∙ cell_seen (with_page1 page m) cell.row cell.column cell.row_ok cell.column_ok

in_memory : (m : Memory) (a : ℕ) (cell : IsCell a) → ram_byte m a ≡ byte_in m.page1 cell.row cell.column
in_memory m a cell = ap (λ k. ram_byte m k) (sym cell.is) ∙ cell_seen m cell.row cell.column cell.row_ok cell.column_ok

-- nothing is stored in a cell, and it holds the same in two new pages as before
record IsKept (stores : List ℕ) (m n : Memory) (g h : Grid) (row column : ℕ) : Type 0 where
  out : is_among stores (address_of One row column) ≡ false
  left : byte_in g row column ≡ byte_in m.page1 row column
  right : byte_in h row column ≡ byte_in n.page1 row column

-- the same byte is stored in it
record IsStored (stores : List ℕ) (g h : Grid) (row column : ℕ) : Type 0 where
  among : is_among stores (address_of One row column) ≡ true
  same : byte_in g row column ≡ byte_in h row column

abbrev Either : List ℕ → Memory → Memory → Grid → Grid → ℕ → ℕ → Type 0
Either stores m n g h row column = IsStored stores g h row column ⊎ IsKept stores m n g h row column

-- two memories with new pages, where one of these two cases applies to each cell
repaged : (known : ℕ → Bool) (stores : List ℕ) (m n : Memory) (g h : Grid) → AgreeOn known m n → IsGrid g → IsGrid h
    → ((a : ℕ) → is_among stores a ≡ true → IsCell a)
    → ((row column : ℕ) → row < 24 → column < 40 → Either stores m n g h row column)
    → Stored known stores m n (with_page1 g m) (with_page1 h n)
repaged known stores m n g h agree g_is h_is cells each = record {
  agree = record {
    left_pages = (g_is, agree.left_pages.1);
    right_pages = (h_is, agree.right_pages.1);
    devices = agree.devices;
    bytes = λ a low shown. bytes a low (is_among stores a) refl shown;
  };
  left = λ b out. one m g b (λ cell. (unstored b (not_in_among b stores out) cell).left) (cell_or_kept b);
  right = λ b out. one n h b (λ cell. (unstored b (not_in_among b stores out) cell).right) (cell_or_kept b);
}
  where
    same : (a : ℕ) → a < ram_end → (cell : IsCell a) → (is_among stores a ≡ false → IsTrue (known a))
        → Either stores m n g h cell.row cell.column → ram_byte (with_page1 g m) a ≡ ram_byte (with_page1 h n) a
    same a low cell shown (inl stored) = in_page m g a cell ∙ stored.same ∙ sym (in_page n h a cell)
    same a low cell shown (inr kept) =
        in_page m g a cell ∙ kept.left ∙ sym (in_memory m a cell)
        ∙ agree.bytes a low (shown (ap (λ k. is_among stores k) (sym cell.is) ∙ kept.out))
        ∙ in_memory n a cell ∙ sym kept.right ∙ sym (in_page n h a cell)

    other : (a : ℕ) → a < ram_end → IsTrue (known a) → IsCell a ⊎ ((m : Memory) (page : Grid) → ram_byte (with_page1 page m) a ≡ ram_byte m a)
        → ram_byte (with_page1 g m) a ≡ ram_byte (with_page1 h n) a
    other a low shown (inl cell) = same a low cell (λ _. shown) (each cell.row cell.column cell.row_ok cell.column_ok)
    other a low shown (inr kept) = kept m g ∙ agree.bytes a low shown ∙ sym (kept n h)

    bytes : (a : ℕ) → a < ram_end → (among : Bool) → is_among stores a ≡ among → IsTrue (among || known a)
        → ram_byte (with_page1 g m) a ≡ ram_byte (with_page1 h n) a
    bytes a low true is _ =
        let cell : IsCell a = cells a is in
        same a low cell (λ out. absurd (true≢false (sym is ∙ out))) (each cell.row cell.column cell.row_ok cell.column_ok)
    bytes a low false is shown = other a low shown (cell_or_kept a)

    unstored : (b : ℕ) → is_among stores b ≡ false → (cell : IsCell b) → IsKept stores m n g h cell.row cell.column
    unstored b out cell = by (each cell.row cell.column cell.row_ok cell.column_ok)
      where
        by : Either stores m n g h cell.row cell.column → IsKept stores m n g h cell.row cell.column
        by (inl stored) = absurd (true≢false (sym stored.among ∙ ap (λ k. is_among stores k) cell.is ∙ out))
        by (inr kept) = kept

    one : (k : Memory) (page : Grid) (b : ℕ)
        → ((cell : IsCell b) → byte_in page cell.row cell.column ≡ byte_in k.page1 cell.row cell.column)
        → IsCell b ⊎ ((m : Memory) (page : Grid) → ram_byte (with_page1 page m) b ≡ ram_byte m b)
        → ram_byte (with_page1 page k) b ≡ ram_byte k b
    one k page b same_cell (inl cell) = in_page k page b cell ∙ same_cell cell ∙ sym (in_memory k b cell)
    one k page b same_cell (inr kept) = kept k page

-- The rows of a window with other parts

-- a page with these parts in the rows of the window
pub record IsParted (w : Window) (part : ℕ → List ℕ) (old new : Grid) : Type 0 where
  pub height : length new ≡ 24
  pub long : (r : ℕ) → w.top ≤ r → r < w.bottom → length (part r) ≡ w.width
  pub inside : (r : ℕ) → w.top ≤ r → r < w.bottom → slice_index_or new r [] ≡ with_part (slice_index_or old r []) w.left (part r)
  pub outside : (r : ℕ) → r < 24 → (r < w.top) ⊎ (w.bottom ≤ r) → slice_index_or new r [] ≡ slice_index_or old r []

parted_grid : (w : Window) (part : ℕ → List ℕ) (old new : Grid) → IsOnScreen w → IsGrid old → IsParted w part old new → IsGrid new
parted_grid w part old new on old_is h = record {
  height = h.height;
  width = λ r r_ok. each r r_ok (cases_lt r w.top) (cases_lt r w.bottom);
}
  where
    each : (r : ℕ) → r < 24 → (r < w.top) ⊎ (w.top ≤ r) → (r < w.bottom) ⊎ (w.bottom ≤ r) → length (slice_index_or new r []) ≡ 40
    each r r_ok (inl above) _ = ap (λ cells. length cells) (h.outside r r_ok (inl above)) ∙ old_is.width r r_ok
    each r r_ok (inr low) (inr below) = ap (λ cells. length cells) (h.outside r r_ok (inr below)) ∙ old_is.width r r_ok
    each r r_ok (inr low) (inl high) =
        ap (λ cells. length cells) (h.inside r low high)
        ∙ spliced-length (slice_index_or old r []) w.left (part r) (omega (arith, h.long r low high, on.right, old_is.width r r_ok))
        ∙ old_is.width r r_ok

-- the same parts in both
pub parted : (known : ℕ → Bool) (w : Window) (part : ℕ → List ℕ) (m n : Memory) (g h : Grid) → AgreeOn known m n → IsOnScreen w
    → IsParted w part m.page1 g → IsParted w part n.page1 h
    → Stored known (window_cells w) m n (with_page1 g m) (with_page1 h n)
parted known w part m n g h agree on to_g to_h =
    repaged known (window_cells w) m n g h agree (parted_grid w part m.page1 g on agree.left_pages.0 to_g)
    (parted_grid w part n.page1 h on agree.right_pages.0 to_h) (window_cell w on)
    (λ row column row_ok column_ok. each row column row_ok column_ok (cases_lt row w.top) (cases_lt row w.bottom))
  where
    -- a row of one of the two pages, outside the part and inside it
    before : (old new : Grid) (row column : ℕ) → IsGrid old → IsParted w part old new → row < 24 → w.top ≤ row → row < w.bottom
        → column < w.left → byte_in new row column ≡ byte_in old row column
    before old new row column is h row_ok low high lt =
        ap (λ cells. slice_index cells column) (h.inside row low high)
        ∙ spliced-before (slice_index_or old row []) w.left (part row) column 0 (omega (arith, h.long row low high, on.right, is.width row row_ok)) lt

    after : (old new : Grid) (row column : ℕ) → IsGrid old → IsParted w part old new → row < 24 → w.top ≤ row → row < w.bottom
        → w.left + w.width ≤ column → byte_in new row column ≡ byte_in old row column
    after old new row column is h row_ok low high le =
        ap (λ cells. slice_index cells column) (h.inside row low high)
        ∙ spliced-after (slice_index_or old row []) w.left (part row) column 0 (omega (arith, h.long row low high, on.right, is.width row row_ok))
        (omega (arith, h.long row low high, le))

    in_part : (old new : Grid) (row column : ℕ) → IsGrid old → IsParted w part old new → row < 24 → IsCovered w row column
        → byte_in new row column ≡ slice_index (part row) (column - w.left)
    in_part old new row column is h row_ok at =
        ap (λ cells. slice_index cells column) (h.inside row at.top at.bottom)
        ∙ spliced-in (slice_index_or old row []) w.left (part row) column (column - w.left) 0
        (omega (arith, h.long row at.top at.bottom, on.right, is.width row row_ok)) (omega (arith, at.left)) (omega (arith, h.long row at.top at.bottom, at.left, at.right))

    kept_row : (row column : ℕ) → row < 24 → column < 40 → (row < w.top) ⊎ (w.bottom ≤ row) → (IsCovered w row column → ⊥)
        → Either (window_cells w) m n g h row column
    kept_row row column row_ok column_ok away out = inr (record {
      out = window_out w on row column row_ok column_ok out;
      left = ap (λ cells. slice_index cells column) (to_g.outside row row_ok away);
      right = ap (λ cells. slice_index cells column) (to_h.outside row row_ok away);
    })

    at_column : (row column : ℕ) → row < 24 → column < 40 → w.top ≤ row → row < w.bottom
        → (column < w.left) ⊎ (w.left ≤ column) → (column < w.left + w.width) ⊎ (w.left + w.width ≤ column)
        → Either (window_cells w) m n g h row column
    at_column row column row_ok column_ok low high (inl lt) _ = inr (record {
      out = window_out w on row column row_ok column_ok (λ at. omega (arith, at.left, lt));
      left = before m.page1 g row column agree.left_pages.0 to_g row_ok low high lt;
      right = before n.page1 h row column agree.right_pages.0 to_h row_ok low high lt;
    })
    at_column row column row_ok column_ok low high (inr left) (inr le) = inr (record {
      out = window_out w on row column row_ok column_ok (λ at. omega (arith, at.right, le));
      left = after m.page1 g row column agree.left_pages.0 to_g row_ok low high le;
      right = after n.page1 h row column agree.right_pages.0 to_h row_ok low high le;
    })
    at_column row column row_ok column_ok low high (inr left) (inl right) =
        let at : IsCovered w row column = record { top = low; bottom = high; left = left; right = right } in
        inl (record {
          among = window_among w row column at;
          same = in_part m.page1 g row column agree.left_pages.0 to_g row_ok at
              ∙ sym (in_part n.page1 h row column agree.right_pages.0 to_h row_ok at);
        })

    each : (row column : ℕ) → row < 24 → column < 40 → (row < w.top) ⊎ (w.top ≤ row) → (row < w.bottom) ⊎ (w.bottom ≤ row)
        → Either (window_cells w) m n g h row column
    each row column row_ok column_ok (inl above) _ = kept_row row column row_ok column_ok (inl above) (λ at. omega (arith, at.top, above))
    each row column row_ok column_ok (inr low) (inr below) = kept_row row column row_ok column_ok (inr below) (λ at. omega (arith, at.bottom, below))
    each row column row_ok column_ok (inr low) (inl high) =
        at_column row column row_ok column_ok low high (cases_lt column w.left) (cases_lt column (w.left + w.width))

-- the same parts, computed in another way
same_parts : (w : Window) (part other : ℕ → List ℕ) (old new : Grid) → IsParted w part old new
    → ((r : ℕ) → w.top ≤ r → r < w.bottom → part r ≡ other r) → IsParted w other old new
same_parts w part other old new h same = record {
  height = h.height;
  long = λ r low high. ap (λ xs. length xs) (sym (same r low high)) ∙ h.long r low high;
  inside = λ r low high. h.inside r low high ∙ ap (λ xs. with_part (slice_index_or old r []) w.left xs) (same r low high);
  outside = h.outside;
}

-- A window scrolled

-- the new contents of a row: the row below, or blanks
abbrev part_of : Window → Grid → ℕ → Bool → List ℕ
part_of w g r more = if more then slice_range (slice_index_or g (r + 1) []) w.left (w.left + w.width) else blank_part w

abbrev coming : Window → Grid → ℕ → List ℕ
coming w g r = part_of w g r (nat_lt (r + 1) w.bottom)

scrolled_parted : (w : Window) (g : Grid) → IsWindow w → IsGrid g → IsParted w (coming w g) g (scrolled w g)
scrolled_parted w g w_is g_is = record {
  height = scrolled-height w g w_is g_is.height;
  long = λ r low high. long r (nat_lt (r + 1) w.bottom) refl;
  inside = λ r low high. inside r low high (nat_lt (r + 1) w.bottom) refl;
  outside = λ r r_ok away. scrolled-out w g w_is g_is.height r away;
}
  where
    long : (r : ℕ) (more : Bool) → nat_lt (r + 1) w.bottom ≡ more → length (part_of w g r more) ≡ w.width
    long r true is =
        let lt : r + 1 < w.bottom = grind (arith, nat_tests, is) in
        range_long (slice_index_or g (r + 1) []) w.left w.width (omega (arith, g_is.width (r + 1) (omega (arith, lt, w_is.bottom)), w_is.right))
    long r false is = length-replicate w.width blank

    inside : (r : ℕ) → w.top ≤ r → r < w.bottom → (more : Bool) → nat_lt (r + 1) w.bottom ≡ more
        → slice_index_or (scrolled w g) r [] ≡ with_part (slice_index_or g r []) w.left (part_of w g r more)
    inside r low high true is =
        let lt : r + 1 < w.bottom = grind (arith, nat_tests, is) in
        scrolled-in w g r w_is g_is.height low lt
    inside r low high false is =
        let e : r + 1 ≡ w.bottom = grind (arith, nat_tests, is, high) in
        scrolled-last w g r w_is g_is.height e

-- the part of a row is the same in both if its cells are known
same_row : (known : ℕ → Bool) (w : Window) (m n : Memory) → AgreeOn known m n → IsWindow w → Knows known (window_cells w)
    → (r : ℕ) → w.top ≤ r → r < w.bottom
    → slice_range (slice_index_or n.page1 r []) w.left (w.left + w.width) ≡ slice_range (slice_index_or m.page1 r []) w.left (w.left + w.width)
same_row known w m n agree w_is shown r low high =
    ext_get_or 0 _ _ (long n agree.right_pages.0 ∙ sym (long m agree.left_pages.0))
    (λ k lt. each k (omega (arith, lt, long n agree.right_pages.0)))
  where
    r_ok : r < 24
    r_ok = omega (arith, high, w_is.bottom)

    long : (k : Memory) → IsGrid k.page1 → length (slice_range (slice_index_or k.page1 r []) w.left (w.left + w.width)) ≡ w.width
    long k is = range_long (slice_index_or k.page1 r []) w.left w.width (omega (arith, is.width r r_ok, w_is.right))

    here : (j : Memory) → IsGrid j.page1 → (k : ℕ) → k < w.width
        → slice_index (slice_range (slice_index_or j.page1 r []) w.left (w.left + w.width)) k ≡ ram_byte j (address_of One r (w.left + k))
    here j is k lt =
        range-at (slice_index_or j.page1 r []) w.left (w.left + w.width) k (w.left + k) 0 (omega (arith, is.width r r_ok, w_is.right)) refl (omega (arith, lt))
        ∙ sym (cell_seen j r (w.left + k) r_ok (omega (arith, lt, w_is.right)))

    each : (k : ℕ) → k < w.width
        → slice_index (slice_range (slice_index_or n.page1 r []) w.left (w.left + w.width)) k
        ≡ slice_index (slice_range (slice_index_or m.page1 r []) w.left (w.left + w.width)) k
    each k lt =
        let at : IsCovered w r (w.left + k) = record { top = low; bottom = high; left = omega arith; right = omega (arith, lt) } in
        here n agree.right_pages.0 k lt
        ∙ sym (agree.bytes (address_of One r (w.left + k)) (omega (arith, lt, r_ok, w_is.right))
        (known_among known (window_cells w) (address_of One r (w.left + k)) shown (window_among w r (w.left + k) at)))
        ∙ sym (here m agree.left_pages.0 k lt)

pub scrolling : (known : ℕ → Bool) (m n : Memory) → AgreeOn known m n → window_of m ≡ window_of n → IsWindow (window_of m)
    → Knows known (window_cells (window_of m))
    → Stored known (window_cells (window_of m)) m n (with_page1 (scrolled (window_of m) m.page1) m) (with_page1 (scrolled (window_of n) n.page1) n)
scrolling known m n agree same w_is shown =
    let P : Window → Type 0 = λ v. Stored known (window_cells w) m n (with_page1 (scrolled w m.page1) m) (with_page1 (scrolled v n.page1) n) in
    subst P same
    (parted known w (coming w m.page1) m n (scrolled w m.page1) (scrolled w n.page1) agree (on_screen w w_is) (scrolled_parted w m.page1 w_is agree.left_pages.0)
    (same_parts w (coming w n.page1) (coming w m.page1) n.page1 (scrolled w n.page1) (scrolled_parted w n.page1 w_is agree.right_pages.0)
    (λ r low high. parts r low (nat_lt (r + 1) w.bottom) refl)))
  where
    w : Window
    w = window_of m

    parts : (r : ℕ) → w.top ≤ r → (more : Bool) → nat_lt (r + 1) w.bottom ≡ more → part_of w n.page1 r more ≡ part_of w m.page1 r more
    parts r low true is =
        let lt : r + 1 < w.bottom = grind (arith, nat_tests, is) in
        same_row known w m n agree w_is shown (r + 1) (omega (arith, low)) lt
    parts r low false is = refl

-- A window cleared, which may have no rows

none_cleared : (w : Window) (g : Grid) → w.bottom ≤ w.top → cleared w g ≡ g
none_cleared w g none =
    let e : w.bottom - w.top ≡ 0 = omega (arith, none) in
    ap (λ rows. spliced g w.top (with_parts_from w.left (map (λ _. blank_part w) (map (λ row. slice_range row w.left (w.left + w.width)) rows)) rows))
    (ap (λ count. take count (drop w.top g)) e)
    ∙ spliced-none g w.top

cleared_parted : (w : Window) (g : Grid) → 0 < w.width → IsOnScreen w → IsGrid g → IsParted w (λ _. blank_part w) g (cleared w g)
cleared_parted w g wide on g_is = go (cases_lt w.top w.bottom)
  where
    go : (w.top < w.bottom) ⊎ (w.bottom ≤ w.top) → IsParted w (λ _. blank_part w) g (cleared w g)
    go (inl some) =
        let w_is : IsWindow w = record { width = wide; right = on.right; height = some; bottom = on.bottom } in
        record {
          height = cleared-height w g w_is g_is.height;
          long = λ r low high. length-replicate w.width blank;
          inside = λ r low high. cleared-in w g r w_is g_is.height low high;
          outside = λ r r_ok away. cleared-out w g w_is g_is.height r away;
        }
    go (inr none) =
        let e : cleared w g ≡ g = none_cleared w g none in
        record {
          height = ap (λ rows. length rows) e ∙ g_is.height;
          long = λ r low high. length-replicate w.width blank;
          inside = λ r low high. absurd (omega (arith, low, high, none));
          outside = λ r r_ok away. ap (λ rows. slice_index_or rows r []) e;
        }

pub clearing : (known : ℕ → Bool) (w : Window) (m n : Memory) → AgreeOn known m n → 0 < w.width → IsOnScreen w
    → Stored known (window_cells w) m n (with_page1 (cleared w m.page1) m) (with_page1 (cleared w n.page1) n)
clearing known w m n agree wide on =
    parted known w (λ _. blank_part w) m n (cleared w m.page1) (cleared w n.page1) agree on
    (cleared_parted w m.page1 wide on agree.left_pages.0) (cleared_parted w n.page1 wide on agree.right_pages.0)

pub clearing_below : (known : ℕ → Bool) (m n : Memory) → AgreeOn known m n → window_of m ≡ window_of n → cursor_row m ≡ cursor_row n
    → IsWindow (window_of m) → Stored known (cells_below m) m n (cleared_below m) (cleared_below n)
clearing_below known m n agree same row w_is =
    let below : Window = record (window_of m) { top = cursor_row m + 1 } in
    let P : Window → Type 0 = λ v. Stored known (window_cells below) m n (with_page1 (cleared below m.page1) m) (with_page1 (cleared v n.page1) n) in
    subst P (λ i. record (same i) { top = row i + 1 })
    (clearing known below m n agree w_is.width (record { right = w_is.right; bottom = w_is.bottom }))

-- A part of one row replaced

abbrev one_row : ℕ → ℕ → ℕ → Window
one_row row left width = record { left = left; width = width; top = row; bottom = row + 1 }

one_row-cells : (row left width : ℕ) → window_cells (one_row row left width) ≡ cells_across row left width
one_row-cells row left width =
    let e : row + 1 - row ≡ 1 = omega arith in
    ap (λ count. flat_map (λ r. cells_across r left width) (numbers_from row count)) e ∙ append-nil (cells_across row left width)

row_parted : (g : Grid) (row left : ℕ) (part : List ℕ) → IsGrid g → row < 24
    → IsParted (one_row row left (length part)) (λ _. part) g (with_row_part g row left part)
row_parted g row left part g_is row_ok = record {
  height = with_row_part-height g row left part ∙ g_is.height;
  long = λ r low high. refl;
  inside = inside;
  outside = λ r r_ok away. with_row_part-other g row left part r (differs r away);
}
  where
    inside : (r : ℕ) → row ≤ r → r < row + 1
        → slice_index_or (with_row_part g row left part) r [] ≡ with_part (slice_index_or g r []) left part
    inside r low high =
        let e : row ≡ r = omega (arith, low, high) in
        let P : ℕ → Type 0 = λ k. slice_index_or (with_row_part g row left part) k [] ≡ with_part (slice_index_or g k []) left part in
        subst P e (with_row_part-here g row left part (omega (arith, row_ok, g_is.height)))

    differs : (r : ℕ) → (r < row) ⊎ (row + 1 ≤ r) → r ≢ row
    differs r (inl a) e = omega (arith, a, e)
    differs r (inr b) e = omega (arith, b, e)

pub laying : (known : ℕ → Bool) (m n : Memory) (row left : ℕ) (part : List ℕ) → AgreeOn known m n → row < 24 → left + length part ≤ 40
    → Stored known (cells_across row left (length part)) m n
    (with_page1 (with_row_part m.page1 row left part) m) (with_page1 (with_row_part n.page1 row left part) n)
laying known m n row left part agree row_ok right =
    let P : List ℕ → Type 0 = λ stores. Stored known stores m n
    (with_page1 (with_row_part m.page1 row left part) m) (with_page1 (with_row_part n.page1 row left part) n) in
    subst P (one_row-cells row left (length part))
    (parted known (one_row row left (length part)) (λ _. part) m n (with_row_part m.page1 row left part) (with_row_part n.page1 row left part) agree
    (record { right = right; bottom = omega (arith, row_ok) })
    (row_parted m.page1 row left part agree.left_pages.0 row_ok) (row_parted n.page1 row left part agree.right_pages.0 row_ok))

pub clearing_to_end : (known : ℕ → Bool) (m n : Memory) → AgreeOn known m n → window_of m ≡ window_of n → cursor_row m ≡ cursor_row n
    → cursor_column m ≡ cursor_column n → CursorFits m → Stored known (cells_to_end m) m n (cleared_to_end m) (cleared_to_end n)
unfolding cleared_to_end
clearing_to_end known m n agree same row column fits =
    let count = (window_of m).width - cursor_column m in
    let blanks = replicate count blank in
    let long : length blanks ≡ count = length-replicate count blank in
    let right : screen_column m + length blanks ≤ 40 = omega (arith, long, fits.column, fits.line.window.right) in
    let P : Memory → Type 0 = λ k. Stored known (cells_to_end m) m n
    (with_page1 (with_row_part m.page1 (cursor_row m) (screen_column m) blanks) m) k in
    let Q : ℕ → Type 0 = λ many. Stored known (cells_across (cursor_row m) (screen_column m) many) m n
    (with_page1 (with_row_part m.page1 (cursor_row m) (screen_column m) blanks) m)
    (with_page1 (with_row_part n.page1 (cursor_row m) (screen_column m) blanks) n) in
    subst P
    (λ i. with_page1 (with_row_part n.page1 (row i) ((same i).left + column i) (replicate ((same i).width - column i) blank)) n)
    (subst Q long (laying known m n (cursor_row m) (screen_column m) blanks agree fits.line.row right))

-- Page 1 made black

abbrev pub whole : Window
whole = record { left = 0; width = 40; top = 0; bottom = 24 }

black_parted : (g : Grid) → IsGrid g → IsParted whole (λ _. replicate 40 0) g black
black_parted g g_is = record {
  height = black_is.height;
  long = λ r low high. refl;
  inside = λ r low high. black_is.rows r high ∙ sym (spliced-whole (slice_index_or g r []) (replicate 40 0) (g_is.width r high));
  outside = outside;
}
  where
    outside : (r : ℕ) → r < 24 → (r < 0) ⊎ (24 ≤ r) → slice_index_or black r [] ≡ slice_index_or g r []
    outside r r_ok (inl below) = absurd (omega (arith, below))
    outside r r_ok (inr above) = absurd (omega (arith, r_ok, above))

pub blackening : (known : ℕ → Bool) (m n : Memory) → AgreeOn known m n
    → Stored known (window_cells whole) m n (with_page1 black m) (with_page1 black n)
blackening known m n agree =
    parted known whole (λ _. replicate 40 0) m n black black agree (record { right = omega arith; bottom = omega arith })
    (black_parted m.page1 agree.left_pages.0) (black_parted n.page1 agree.right_pages.0)

-- The Monitor's services that print keep memory whole, and window and cursor on the screen.
use Rattle.std.specs.Prelude.{◌≡◌, ◌≢◌, ◌⊎◌, ℕ, ◌+◌, ◌-◌, ◌/◌, ◌%◌, ◌<◌, ◌≤◌, ◌==◌, ◌&&◌, nat_lt, nat_le, Bool, true, false, List, [], length, replicate, slice_index, slice_index_or, slice_range, Option, Some, None, if◌then◌else◌, refl}
use Rattle.std.proofs.Common.{sym, ◌∙◌, subst, arith, inl, inr}
use Rattle.std.proofs.lemmas.List.{get_or_past, get_or-replicate, length-replicate}
use Rattle.std.proofs.lemmas.Bool.{cases_eq, cases_lt}
use Rattle.a2_page.specs.declared.Page.{Page}
use Rattle.a2_page.specs.declared.Page.TheVariants.{One, Two}
use Rattle.a2_page.specs.Cells.{Cell, cell_at, address_of, row_start}
use Rattle.a2_page.specs.Window.{IsWindow}
use Rattle.a2_page.specs.Grid.{Grid, IsGrid, Window, byte_in, with_byte, with_part, with_row_part, blank, blank_part, scrolled, cleared}
use Rattle.a2_page.proofs.Finding.{cell_at-stands, finds_each_cell}
use Rattle.a2_page.proofs.GridLemmas.{byte_in-with_byte, byte_in-with_byte_row, byte_in-with_byte_column, IsGrid-with_byte}
use Rattle.a2_page.proofs.Parts.{spliced-length, spliced-before, spliced-in, spliced-after, range-at, range_long, scrolled-in, scrolled-last, scrolled-out, scrolled-height, with_row_part-height, with_row_part-here, with_row_part-other, cleared-in, cleared-out, cleared-height}
use Rattle.a2_bus.specs.Memory.{Memory, grid, ram_byte, with_ram}
use Rattle.a2_bus.proofs.Frame.{ram_byte-with_ram}
use Rattle.a2_bus.proofs.Viewing.{plain_written}
use Rattle.a2_effect.specs.Arithmetic.{by_digits}
use Rattle.a2_theorems.specs.Routines.{HasBytes}
use Rattle.a2_services.specs.Fits.{LineFits, CursorFits}
use Rattle.a2_services.specs.Put.{window_of, cursor_row, cursor_column, with_cursor_row, with_cursor_column, screen_column, with_page1, inverse_mask, after_line_feed, after_return, after_backspace, after_character, after_put_unmasked, after_put, with_base_address}
use Rattle.a2_services.specs.Services.{cleared_to_end}
use Rattle.a2_services.proofs.Fitting.{column_line, column_fits, page_line, other_fits, home_line}
use Rattle.a2_promise_rules.proofs.Bits.{digits_small}
use Rattle.a2_promise_rules.proofs.Meeting.{Whole}
use Rattle.a2_promise_rules.proofs.Proving.{whole_with}

-- Pages of bytes

pub record IsOfBytes (g : Grid) : Type 0 where
  pub shape : IsGrid g
  pub bytes : (row : ℕ) → row < 24 → (c : ℕ) → byte_in g row c < 256

-- a row of bytes
abbrev AreBytes : List ℕ → Type 0
AreBytes cells = (c : ℕ) → slice_index cells c < 256

-- a row with one part replaced by bytes
part_bytes : (row : List ℕ) (left : ℕ) (part : List ℕ) → left + length part ≤ length row → AreBytes row → AreBytes part
    → AreBytes (with_part row left part)
part_bytes row left part fits cells new c = by (cases_lt c left) (cases_lt c (left + length part))
  where
    by : (c < left) ⊎ (left ≤ c) → (c < left + length part) ⊎ (left + length part ≤ c)
        → slice_index (with_part row left part) c < 256
    by (inl before) _ = let is = spliced-before row left part c 0 fits before in omega (arith, is, cells c)
    by (inr from) (inl inside) =
        let is = spliced-in row left part c (c - left) 0 fits (omega (arith, from)) (omega (arith, from, inside)) in
        omega (arith, is, new (c - left))
    by (inr _) (inr after) = let is = spliced-after row left part c 0 fits after in omega (arith, is, cells c)

range_bytes : (cells : List ℕ) (left width : ℕ) → left + width ≤ length cells → AreBytes cells
    → AreBytes (slice_range cells left (left + width))
range_bytes cells left width fits bytes c = by (cases_lt c width)
  where
    by : (c < width) ⊎ (width ≤ c) → slice_index (slice_range cells left (left + width)) c < 256
    by (inl inside) =
        let is = range-at cells left (left + width) c (left + c) 0 fits (omega arith) (omega (arith, inside)) in
        omega (arith, is, bytes (left + c))
    by (inr following) =
        let is = get_or_past (slice_range cells left (left + width)) c 0
        (omega (arith, range_long cells left width fits, following)) in
        omega (arith, is)

blanks_bytes : (n : ℕ) → AreBytes (replicate n blank)
blanks_bytes n c = by (cases_lt c n)
  where
    by : (c < n) ⊎ (n ≤ c) → slice_index (replicate n blank) c < 256
    by (inl inside) = let is = get_or-replicate n c blank 0 inside in omega (arith, is)
    by (inr following) =
        let is = get_or_past (replicate n blank) c 0 (omega (arith, length-replicate n blank, following)) in omega (arith, is)

blank_bytes : (w : Window) → AreBytes (blank_part w)
blank_bytes w = blanks_bytes w.width

-- a row of 40 bytes
record IsRow (cells : List ℕ) : Type 0 where
  long : length cells ≡ 40
  bytes : AreBytes cells

row_of : (g : Grid) → IsOfBytes g → (row : ℕ) → row < 24 → IsRow (slice_index_or g row [])
row_of g h row low = record { long = h.shape.width row low; bytes = h.bytes row low }

-- a row with one part replaced
row_with : (row : List ℕ) (left : ℕ) (part : List ℕ) → IsRow row → left + length part ≤ 40 → AreBytes part
    → IsRow (with_part row left part)
row_with row left part is fits bytes =
    let inside : left + length part ≤ length row = omega (arith, is.long, fits) in
    record { long = spliced-length row left part inside ∙ is.long; bytes = part_bytes row left part inside is.bytes bytes }

-- the same inside a window
part_row : (w : Window) (row part : List ℕ) → IsWindow w → IsRow row → length part ≡ w.width → AreBytes part
    → IsRow (with_part row w.left part)
part_row w row part window is long bytes = row_with row w.left part is (omega (arith, long, window.right)) bytes

of_rows : (g : Grid) → length g ≡ 24 → ((row : ℕ) → row < 24 → IsRow (slice_index_or g row [])) → IsOfBytes g
of_rows g high rows = record {
  shape = record { height = high; width = λ row low. (rows row low).long };
  bytes = λ row low. (rows row low).bytes;
}

module _ (w : Window) (g : Grid) (window : IsWindow w) (is : IsOfBytes g) where
  pub scrolled_bytes : IsOfBytes (scrolled w g)
  scrolled_bytes =
      of_rows (scrolled w g) (scrolled-height w g window is.shape.height)
      (λ row low. by row low (cases_lt row w.top) (cases_lt (row + 1) w.bottom))
    where
      at_last : (row : ℕ) → row < 24 → w.top ≤ row → w.bottom ≤ row + 1 → (row + 1 ≡ w.bottom) ⊎ (w.bottom ≤ row)
      at_last row low from to = grind (arith, from, to)

      last : (row : ℕ) → row < 24 → (row + 1 ≡ w.bottom) ⊎ (w.bottom ≤ row) → IsRow (slice_index_or (scrolled w g) row [])
      last row low (inl e) =
          subst IsRow (sym (scrolled-last w g row window is.shape.height e))
          (part_row w (slice_index_or g row []) (blank_part w) window (row_of g is row low) (length-replicate w.width blank)
          (blank_bytes w))
      last row low (inr out) = subst IsRow (sym (scrolled-out w g window is.shape.height row (inr out))) (row_of g is row low)

      by : (row : ℕ) → row < 24 → (row < w.top) ⊎ (w.top ≤ row) → (row + 1 < w.bottom) ⊎ (w.bottom ≤ row + 1)
          → IsRow (slice_index_or (scrolled w g) row [])
      by row low (inl above) _ =
          subst IsRow (sym (scrolled-out w g window is.shape.height row (inl above))) (row_of g is row low)
      by row low (inr from) (inl to) =
          let next : IsRow (slice_index_or g (row + 1) []) = row_of g is (row + 1) (omega (arith, to, window.bottom)) in
          subst IsRow (sym (scrolled-in w g row window is.shape.height from to))
          (part_row w (slice_index_or g row []) (slice_range (slice_index_or g (row + 1) []) w.left (w.left + w.width)) window
          (row_of g is row low)
          (range_long (slice_index_or g (row + 1) []) w.left w.width (omega (arith, next.long, window.right)))
          (range_bytes (slice_index_or g (row + 1) []) w.left w.width (omega (arith, next.long, window.right)) next.bytes))
      by row low (inr from) (inr to) = last row low (at_last row low from to)

  pub cleared_bytes : IsOfBytes (cleared w g)
  cleared_bytes =
      of_rows (cleared w g) (cleared-height w g window is.shape.height)
      (λ row low. by row low (cases_lt row w.top) (cases_lt row w.bottom))
    where
      by : (row : ℕ) → row < 24 → (row < w.top) ⊎ (w.top ≤ row) → (row < w.bottom) ⊎ (w.bottom ≤ row)
          → IsRow (slice_index_or (cleared w g) row [])
      by row low (inl above) _ = subst IsRow (sym (cleared-out w g window is.shape.height row (inl above))) (row_of g is row low)
      by row low (inr from) (inl to) =
          subst IsRow (sym (cleared-in w g row window is.shape.height from to))
          (part_row w (slice_index_or g row []) (blank_part w) window (row_of g is row low) (length-replicate w.width blank)
          (blank_bytes w))
      by row low (inr from) (inr below) =
          subst IsRow (sym (cleared-out w g window is.shape.height row (inr below))) (row_of g is row low)

part_page : (g : Grid) (row column : ℕ) (part : List ℕ) → IsOfBytes g → row < 24 → column + length part ≤ 40 → AreBytes part
    → IsOfBytes (with_row_part g row column part)
part_page g row column part is low fits new =
    of_rows (with_row_part g row column part) (with_row_part-height g row column part ∙ is.shape.height)
    (λ r r_low. by r r_low (cases_eq r row))
  where
    by : (r : ℕ) → r < 24 → (r ≡ row) ⊎ (r ≢ row) → IsRow (slice_index_or (with_row_part g row column part) r [])
    by r r_low (inl same) =
        subst (λ k. IsRow (slice_index_or (with_row_part g row column part) k [])) (sym same)
        (subst IsRow (sym (with_row_part-here g row column part (omega (arith, low, is.shape.height))))
        (row_with (slice_index_or g row []) column part (row_of g is row low) fits new))
    by r r_low (inr other) = subst IsRow (sym (with_row_part-other g row column part r other)) (row_of g is r r_low)

cell_bytes : (g : Grid) (row column byte : ℕ) → IsOfBytes g → row < 24 → column < 40 → byte < 256
    → IsOfBytes (with_byte g row column byte)
cell_bytes g row column byte is low narrow small = record {
  shape = IsGrid-with_byte g row column byte is.shape low;
  bytes = λ r r_low c. at_row r r_low c (cases_eq r row);
}
  where
    at_column : (c : ℕ) → (c ≡ column) ⊎ (c ≢ column) → byte_in (with_byte g row column byte) row c < 256
    at_column c (inl same) =
        subst (λ k. byte_in (with_byte g row column byte) row k < 256) (sym same)
        (let e = byte_in-with_byte g row column byte is.shape low narrow in omega (arith, e, small))
    at_column c (inr other) =
        let e = byte_in-with_byte_column g row column byte c is.shape low other in omega (arith, e, is.bytes row low c)

    at_row : (r : ℕ) → r < 24 → (c : ℕ) → (r ≡ row) ⊎ (r ≢ row) → byte_in (with_byte g row column byte) r c < 256
    at_row r r_low c (inl same) =
        subst (λ k. byte_in (with_byte g row column byte) k c < 256) (sym same) (at_column c (cases_eq c column))
    at_row r r_low c (inr other) =
        let e = byte_in-with_byte_row g row column byte r c other in omega (arith, e, is.bytes r r_low c)

abbrev byte_of : Memory → ℕ → Option Cell → ℕ
byte_of m a found = elim found [ Some cell ↦ byte_in (grid m cell.page) cell.row cell.column | None ↦ m.plain a ]

-- page 1 of a whole memory, and another page in its place
page_bytes : (m : Memory) → Whole m → IsOfBytes m.page1
unfolding ram_byte
page_bytes m whole = record { shape = whole.pages.0; bytes = λ row low c. by row low c (cases_lt c 40) }
  where
    by : (row : ℕ) → row < 24 → (c : ℕ) → (c < 40) ⊎ (40 ≤ c) → byte_in m.page1 row c < 256
    by row low c (inl narrow) =
        subst (λ found. byte_of m (address_of One row c) found < 256) (finds_each_cell One row c low narrow)
        (whole.bytes (address_of One row c))
    by row low c (inr wide) =
        let e = get_or_past (slice_index_or m.page1 row []) c 0 (omega (arith, whole.pages.0.width row low, wide)) in
        omega (arith, e)

bytes_with : (m : Memory) (page : Grid) → HasBytes m → IsOfBytes page → HasBytes (with_page1 page m)
unfolding ram_byte
bytes_with m page bytes is a = go (cell_at a) refl
  where
    in_page : (p : Page) (row column : ℕ) → row < 24 → byte_in (grid m p) row column < 256
        → byte_in (grid (with_page1 page m) p) row column < 256
    in_page One row column low old = is.bytes row low column
    in_page Two row column low old = old

    go : (found : Option Cell) → cell_at a ≡ found → byte_of (with_page1 page m) a found < 256
    go None e = subst (λ found. byte_of m a found < 256) e (bytes a)
    go (Some cell) e =
        in_page cell.page cell.row cell.column (cell_at-stands a cell e).row_ok
        (subst (λ found. byte_of m a found < 256) e (bytes a))

page_whole : (m : Memory) (page : Grid) → Whole m → IsOfBytes page → Whole (with_page1 page m)
page_whole m page whole is = record { bytes = bytes_with m page whole.bytes is; pages = (is.shape, whole.pages.1) }

-- Operations that print a byte

column_whole : (m : Memory) (c : ℕ) → Whole m → c < 256 → Whole (with_cursor_column c m)
column_whole m c whole small = whole_with m 0x24 c whole small

row_whole : (m : Memory) (r : ℕ) → Whole m → r < 256 → Whole (with_cursor_row r m)
row_whole m r whole small = whole_with m 0x25 r whole small

either : (v : Bool) (x y : Memory) → Whole x → Whole y → Whole (if v then x else y)
either true x y h g = h
either false x y h g = g

feed_whole : (m : Memory) → Whole m → CursorFits m → Whole (after_line_feed m)
unfolding after_line_feed
feed_whole m whole fits =
    either (nat_lt (cursor_row m + 1) (window_of m).bottom) _ _
    (row_whole m (cursor_row m + 1) whole (omega (arith, fits.line.row)))
    (page_whole m _ whole (scrolled_bytes (window_of m) m.page1 fits.line.window (page_bytes m whole)))

return_whole : (m : Memory) → Whole m → LineFits m → Whole (after_return m)
unfolding after_return
return_whole m whole line =
    feed_whole (with_cursor_column 0 m) (column_whole m 0 whole (omega arith))
    (column_fits m 0 line (omega (arith, line.window.width, line.window.right)))

backspace_whole : (m : Memory) → Whole m → CursorFits m → Whole (after_backspace m)
unfolding after_backspace
backspace_whole m whole fits =
    either (nat_lt 0 (cursor_column m)) _ _ (column_whole m (cursor_column m - 1) whole (omega (arith, fits.column)))
    (either (nat_lt (window_of m).top (cursor_row m)) _ _
    (row_whole _ (cursor_row m - 1) wrapped (omega (arith, fits.line.row))) wrapped)
  where
    wrapped : Whole (with_cursor_column ((window_of m).width - 1) m)
    wrapped = column_whole m ((window_of m).width - 1) whole (omega (arith, fits.line.window.right))

character_whole : (byte : ℕ) (m : Memory) → Whole m → CursorFits m → byte < 256 → Whole (after_character byte m)
unfolding after_character
character_whole byte m whole fits small =
    either (nat_le (window_of m).width (cursor_column m + 1)) _ _
    (return_whole (with_cursor_column (cursor_column m + 1) written) moved
    (column_line written (cursor_column m + 1) (page_line m _ fits.line))) moved
  where
    written : Memory
    written = with_page1 (with_byte m.page1 (cursor_row m) (screen_column m) byte) m

    written_whole : Whole written
    written_whole =
        page_whole m _ whole
        (cell_bytes m.page1 (cursor_row m) (screen_column m) byte (page_bytes m whole) fits.line.row fits.column small)

    moved : Whole (with_cursor_column (cursor_column m + 1) written)
    moved = column_whole written (cursor_column m + 1) written_whole (omega (arith, fits.column))

pub unmasked_whole : (byte : ℕ) (m : Memory) → Whole m → CursorFits m → byte < 256 → Whole (after_put_unmasked byte m)
unfolding after_put_unmasked
unmasked_whole byte m whole fits small =
    either (byte == 0x8D) _ _ (return_whole m whole fits.line)
    (either (byte == 0x8A) _ _ (feed_whole m whole fits)
    (either (byte == 0x88) _ _ (backspace_whole m whole fits)
    (either (nat_le 0x80 byte && nat_lt byte blank) _ _ whole (character_whole byte m whole fits small))))

pub printed_whole : (byte : ℕ) (m : Memory) → Whole m → CursorFits m → byte < 256 → Whole (after_put byte m)
unfolding after_put
printed_whole byte m whole fits small = by (nat_le blank byte)
  where
    by : (v : Bool) → Whole (after_put_unmasked (if v then by_digits 8 ◌&&◌ byte (inverse_mask m) else byte) m)
    by true = unmasked_whole _ m whole fits (digits_small ◌&&◌ byte (inverse_mask m))
    by false = unmasked_whole byte m whole fits small

pub home_whole : (m : Memory) → Whole m → IsWindow (window_of m)
    → Whole (with_cursor_row (window_of m).top (with_cursor_column 0 (with_page1 (cleared (window_of m) m.page1) m)))
home_whole m whole window =
    let blank = page_whole m (cleared (window_of m) m.page1) whole
    (cleared_bytes (window_of m) m.page1 window (page_bytes m whole)) in
    row_whole _ (window_of m).top (column_whole _ 0 blank (omega arith)) (omega (arith, window.height, window.bottom))

pub to_end_whole : (m : Memory) → Whole m → CursorFits m → Whole (cleared_to_end m)
unfolding cleared_to_end
to_end_whole m whole fits =
    let count = (window_of m).width - cursor_column m in
    let room : screen_column m + length (replicate count blank) ≤ 40 =
    omega (arith, length-replicate count blank, fits.column, fits.line.window.right) in
    page_whole m _ whole
    (part_page m.page1 (cursor_row m) (screen_column m) (replicate count blank) (page_bytes m whole) fits.line.row room
    (blanks_bytes count))

no_cell : cell_at 0x24 ≡ None
unfolding cell_at
no_cell = refl

-- the cursor at the window's top left
pub home_fits : (m : Memory) (page : Grid) → IsWindow (window_of m)
    → CursorFits (with_cursor_row (window_of m).top (with_cursor_column 0 (with_page1 page m)))
home_fits m page window = record { line = line; column = omega (arith, line.window.width, line.window.right, first) }
  where
    last : Memory
    last = with_cursor_row (window_of m).top (with_cursor_column 0 (with_page1 page m))

    line : LineFits last
    line = home_line m page window

    first : cursor_column last ≡ 0
    first =
        ram_byte-with_ram (with_cursor_column 0 (with_page1 page m)) 0x25 (window_of m).top 0x24 (λ e. omega (arith, e))
        ∙ plain_written (with_page1 page m) 0x24 0 no_cell

-- the start of the cursor's row

module _ (m : Memory) (whole : Whole m) (fits : CursorFits m) where
  pub base_whole : Whole (with_base_address m)
  unfolding with_base_address
  base_whole =
      let base = row_start One (cursor_row m) + (window_of m).left in
      let small : base / 256 < 256 = omega (arith, fits.line.row, fits.line.window.right) in
      whole_with (with_ram m 0x28 (base % 256)) 0x29 (base / 256) (whole_with m 0x28 (base % 256) whole (omega arith)) small

  pub base_fits : CursorFits (with_base_address m)
  unfolding with_base_address
  base_fits = other_fits _ 0x29 _ (omega arith) (other_fits m 0x28 _ (omega arith) fits)

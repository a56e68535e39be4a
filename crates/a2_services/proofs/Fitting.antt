-- Window and cursor stay on the screen.
use Rattle.std.specs.Prelude.{◌≡◌, ◌≢◌, ℕ, ◌+◌, ◌-◌, ◌<◌, ◌≤◌, ◌==◌, Bool, true, false, ◌&&◌, nat_lt, nat_le, if◌then◌else◌, refl, None}
use Rattle.std.proofs.Common.{sym, ap, ◌∙◌, subst, arith, inl}
use Rattle.std.proofs.lemmas.Bool.Decides.{nat_tests}
use Rattle.a2_page.specs.Cells.{cell_at}
use Rattle.a2_page.specs.Grid.{Grid, Window, with_byte, blank}
use Rattle.a2_page.specs.Window.{IsWindow}
use Rattle.a2_bus.specs.Devices.{Devices}
use Rattle.a2_bus.specs.Memory.{Memory, ram_byte, with_ram}
use Rattle.a2_bus.proofs.Frame.{ram_byte-with_ram, ram_byte-page1}
use Rattle.a2_bus.proofs.Viewing.{plain_written}
use Rattle.a2_services.specs.Put.{window_of, cursor_row, cursor_column, with_cursor_row, with_cursor_column, screen_column, with_page1, after_line_feed, after_return, after_backspace, after_character, after_put_unmasked, after_put, inverse_mask, masked_by}
use Rattle.a2_services.specs.Fits.{CursorFits, LineFits}

column_free : cell_at 0x24 ≡ None
unfolding cell_at
column_free = refl

row_free : cell_at 0x25 ≡ None
unfolding cell_at
row_free = refl

-- The window after a write

differ : (a b : ℕ) → a < b → a ≢ b
differ a b lt e = omega (arith, lt, e)

pub window_kept : (m : Memory) (a byte : ℕ) → 0x24 ≤ a → window_of (with_ram m a byte) ≡ window_of m
window_kept m a byte high = grind (arith, ram_byte-with_ram)

pub window_kept-page : (m : Memory) (page : Grid) → window_of (with_page1 page m) ≡ window_of m
window_kept-page m page = grind (arith, ram_byte-page1)

line_from : (m n : Memory) → LineFits m → window_of n ≡ window_of m → cursor_row n < 24 → LineFits n
line_from m n h e row = record { window = subst IsWindow (sym e) h.window; row = row }

fits_from : (m n : Memory) → LineFits m → window_of n ≡ window_of m → cursor_row n < 24 → (window_of m).left + cursor_column n < 40 → CursorFits n
fits_from m n h e row column = record {
  line = line_from m n h e row;
  column = omega (arith, ap (λ (w : Window). w.left) e, column);
}

-- setting the cursor's column

pub row_at_column : (m : Memory) (c : ℕ) → cursor_row (with_cursor_column c m) ≡ cursor_row m
row_at_column m c = ram_byte-with_ram m 0x24 c 0x25 (λ e. differ 0x24 0x25 (omega arith) (sym e))

pub column_line : (m : Memory) (c : ℕ) → LineFits m → LineFits (with_cursor_column c m)
column_line m c h = line_from m (with_cursor_column c m) h (window_kept m 0x24 c (omega arith)) (omega (arith, row_at_column m c, h.row))

pub column_fits : (m : Memory) (c : ℕ) → LineFits m → (window_of m).left + c < 40 → CursorFits (with_cursor_column c m)
column_fits m c h lt =
    fits_from m (with_cursor_column c m) h (window_kept m 0x24 c (omega arith)) (omega (arith, row_at_column m c, h.row))
    (omega (arith, plain_written m 0x24 c column_free, lt))

-- setting the cursor's row

pub row_line : (m : Memory) (r : ℕ) → LineFits m → r < 24 → LineFits (with_cursor_row r m)
row_line m r h lt = line_from m (with_cursor_row r m) h (window_kept m 0x25 r (omega arith)) (omega (arith, plain_written m 0x25 r row_free, lt))

pub row_fits : (m : Memory) (r : ℕ) → CursorFits m → r < 24 → CursorFits (with_cursor_row r m)
row_fits m r h lt =
    fits_from m (with_cursor_row r m) h.line (window_kept m 0x25 r (omega arith)) (omega (arith, plain_written m 0x25 r row_free, lt))
    (omega (arith, ram_byte-with_ram m 0x25 r 0x24 (differ 0x24 0x25 (omega arith)), h.column))

-- replacing page 1

pub page_line : (m : Memory) (page : Grid) → LineFits m → LineFits (with_page1 page m)
page_line m page h = line_from m (with_page1 page m) h (window_kept-page m page) (omega (arith, ram_byte-page1 m page 0x25 (inl (omega arith)), h.row))

pub page_fits : (m : Memory) (page : Grid) → CursorFits m → CursorFits (with_page1 page m)
page_fits m page h =
    fits_from m (with_page1 page m) h.line (window_kept-page m page)
    (omega (arith, ram_byte-page1 m page 0x25 (inl (omega arith)), h.line.row))
    (omega (arith, ram_byte-page1 m page 0x24 (inl (omega arith)), h.column))

-- a write to another address
pub other_fits : (m : Memory) (a byte : ℕ) → 0x26 ≤ a → CursorFits m → CursorFits (with_ram m a byte)
other_fits m a byte high h =
    fits_from m (with_ram m a byte) h.line (window_kept m a byte (omega (arith, high)))
    (omega (arith, ram_byte-with_ram m a byte 0x25 (differ 0x25 a (omega (arith, high))), h.line.row))
    (omega (arith, ram_byte-with_ram m a byte 0x24 (differ 0x24 a (omega (arith, high))), h.column))

pub devices_fit : (m : Memory) (devices : Devices) → CursorFits m → CursorFits (record m { devices = devices })
unfolding ram_byte
devices_fit m devices h =
    let w : IsWindow (window_of m) = h.line.window in
    record {
      line = record { window = record { width = w.width; right = w.right; height = w.height; bottom = w.bottom }; row = h.line.row };
      column = h.column;
    }

either : (P : Memory → Type 0) (v : Bool) (x y : Memory) → (v ≡ true → P x) → (v ≡ false → P y) → P (if v then x else y)
either P true x y h g = h refl
either P false x y h g = g refl

-- Putting a byte keeps both on the screen

is_below : (a b : ℕ) → nat_lt a b ≡ true → a < b
is_below a b e = grind (arith, nat_tests, e)

is_not_above : (a b : ℕ) → nat_le a b ≡ false → b < a
is_not_above a b e = grind (arith, nat_tests, e)

pub line_feed_fits : (m : Memory) → CursorFits m → CursorFits (after_line_feed m)
unfolding after_line_feed
line_feed_fits m h =
    either CursorFits (nat_lt (cursor_row m + 1) (window_of m).bottom) _ _
    (λ e. row_fits m (cursor_row m + 1) h (omega (arith, is_below (cursor_row m + 1) (window_of m).bottom e, h.line.window.bottom)))
    (λ e. page_fits m _ h)

pub return_fits : (m : Memory) → LineFits m → CursorFits (after_return m)
unfolding after_return
return_fits m h = line_feed_fits (with_cursor_column 0 m) (column_fits m 0 h (omega (arith, h.window.width, h.window.right)))

pub wrapped_fits : (m : Memory) → LineFits m → CursorFits (with_cursor_column ((window_of m).width - 1) m)
wrapped_fits m h = column_fits m ((window_of m).width - 1) h (omega (arith, h.window.width, h.window.right))

pub backspace_fits : (m : Memory) → CursorFits m → CursorFits (after_backspace m)
unfolding after_backspace
backspace_fits m h =
    either CursorFits (nat_lt 0 (cursor_column m)) _ _
    (λ e. column_fits m (cursor_column m - 1) h.line (omega (arith, h.column)))
    (λ e. either CursorFits (nat_lt (window_of m).top (cursor_row m)) _ _
    (λ _. row_fits _ (cursor_row m - 1) (wrapped_fits m h.line) (omega (arith, h.line.row)))
    (λ _. wrapped_fits m h.line))

pub character_fits : (byte : ℕ) (m : Memory) → CursorFits m → CursorFits (after_character byte m)
unfolding after_character
character_fits byte m h =
    let page = with_byte m.page1 (cursor_row m) (screen_column m) byte in
    let written = with_page1 page m in
    let left : (window_of written).left ≡ (window_of m).left = ap (λ (w : Window). w.left) (window_kept-page m page) in
    either CursorFits (nat_le (window_of m).width (cursor_column m + 1)) _ _
    (λ e. return_fits (with_cursor_column (cursor_column m + 1) written) (column_line written (cursor_column m + 1) (page_line m page h.line)))
    (λ e. column_fits written (cursor_column m + 1) (page_line m page h.line)
    (omega (arith, left, is_not_above (window_of m).width (cursor_column m + 1) e, h.line.window.right)))

pub put_unmasked_fits : (byte : ℕ) (m : Memory) → CursorFits m → CursorFits (after_put_unmasked byte m)
unfolding after_put_unmasked
put_unmasked_fits byte m h =
    either CursorFits (byte == 0x8D) _ _ (λ _. return_fits m h.line)
    (λ _. either CursorFits (byte == 0x8A) _ _ (λ _. line_feed_fits m h)
    (λ _. either CursorFits (byte == 0x88) _ _ (λ _. backspace_fits m h)
    (λ _. either CursorFits (nat_le 0x80 byte && nat_lt byte blank) _ _ (λ _. h) (λ _. character_fits byte m h))))

pub put_fits : (byte : ℕ) (m : Memory) → CursorFits m → CursorFits (after_put byte m)
unfolding after_put
put_fits byte m h = put_unmasked_fits (masked_by byte (inverse_mask m)) m h

-- the cursor at the window's top left, wherever it was
pub home_line : (m : Memory) (page : Grid) → IsWindow (window_of m)
    → LineFits (with_cursor_row (window_of m).top (with_cursor_column 0 (with_page1 page m)))
home_line m page w =
    let first = with_page1 page m in
    let second = with_cursor_column 0 first in
    let third = with_cursor_row (window_of m).top second in
    let same : window_of third ≡ window_of m = window_kept second 0x25 (window_of m).top (omega arith) ∙ window_kept first 0x24 0 (omega arith) ∙ window_kept-page m page in
    record {
      window = subst IsWindow (sym same) w;
      row = omega (arith, plain_written second 0x25 (window_of m).top row_free, w.height, w.bottom);
    }

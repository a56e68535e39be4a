-- The window and the cursor after the cursor moved or page 1 changed.
use Rattle.std.specs.Prelude.{◌≡◌, ◌≢◌, ℕ, ◌+◌, ◌-◌, ◌<◌, ◌≤◌, ◌==◌, Bool, true, false, ◌&&◌, nat_lt, nat_le, if◌then◌else◌, refl, None}
use Rattle.std.proofs.Common.{sym, ap, ◌∙◌, arith, inl, true≢false}
use Rattle.std.proofs.lemmas.Bool.Decides.{nat_tests}
use Rattle.a2_page.specs.Cells.{cell_at}
use Rattle.a2_page.specs.Grid.{Grid, Window, blank, with_byte}
use Rattle.a2_bus.specs.Locations as at
use Rattle.a2_bus.specs.Memory.{Memory}
use Rattle.a2_bus.proofs.Frame.{ram_byte-with_ram, ram_byte-page1}
use Rattle.a2_bus.proofs.Viewing.{plain_written}
use Rattle.a2_services.specs.Bytes.{carriage_return, line_feed, backspace}
use Rattle.a2_services.specs.Put.{window_of, cursor_row, cursor_column, screen_column, with_cursor_row, with_cursor_column, with_page1, after_line_feed, after_return, after_backspace, after_character, after_put, after_put_unmasked, inverse_mask, masked_by}
use Rattle.a2_services.proofs.Fitting.{window_kept, window_kept-page}
use Rattle.a2_services.proofs.Reaching.{outside_of, put-kept}
use Rattle.a2_footprint.specs.Services.{masked}
use Rattle.a2_promise_certify.specs.Screen.{IsCursor}
use Rattle.a2_promise_certify.specs.declared.cursor.Cursor.{Cursor}

-- Setting one location

column_free : cell_at at.ch ≡ None
unfolding cell_at
column_free = refl

row_free : cell_at at.cv ≡ None
unfolding cell_at
row_free = refl

differ : at.ch ≢ at.cv
differ e = let bad : ⊥ = omega (arith, e) in bad

column_set : (cursor : Cursor) (m : Memory) (old column new : ℕ) → IsCursor (record cursor { column = old }) m → new ≡ column
    → IsCursor (record cursor { column = column }) (with_cursor_column new m)
column_set cursor m old column new h same = record {
  window = window_kept m at.ch new (omega arith) ∙ h.window;
  row = ram_byte-with_ram m at.ch new at.cv (λ e. differ (sym e)) ∙ h.row;
  column = plain_written m at.ch new column_free ∙ same;
}

row_set : (cursor : Cursor) (m : Memory) (row new : ℕ) → IsCursor cursor m → new ≡ row
    → IsCursor (record cursor { row = row }) (with_cursor_row new m)
row_set cursor m row new h same = record {
  window = window_kept m at.cv new (omega arith) ∙ h.window;
  row = plain_written m at.cv new row_free ∙ same;
  column = ram_byte-with_ram m at.cv new at.ch differ ∙ h.column;
}

page_set : (cursor : Cursor) (m : Memory) (page : Grid) → IsCursor cursor m → IsCursor cursor (with_page1 page m)
page_set cursor m page h = record {
  window = window_kept-page m page ∙ h.window;
  row = ram_byte-page1 m page at.cv (inl (omega arith)) ∙ h.row;
  column = ram_byte-page1 m page at.ch (inl (omega arith)) ∙ h.column;
}

-- The memory that a test chooses of two

chosen : (P : Memory → Type 0) (v : Bool) (x y : Memory) → v ≡ true → P x → P (if v then x else y)
chosen P true x y is h = h
chosen P false x y is h = absurd (true≢false (sym is))

left : (P : Memory → Type 0) (v : Bool) (x y : Memory) → v ≡ false → P y → P (if v then x else y)
left P false x y is h = h
left P true x y is h = absurd (true≢false is)

bottom_is : (cursor : Cursor) (m : Memory) → IsCursor cursor m → (window_of m).bottom ≡ cursor.bottom
bottom_is cursor m h = ap (λ (w : Window). w.bottom) h.window

top_is : (cursor : Cursor) (m : Memory) → IsCursor cursor m → (window_of m).top ≡ cursor.top
top_is cursor m h = ap (λ (w : Window). w.top) h.window

width_is : (cursor : Cursor) (m : Memory) → IsCursor cursor m → (window_of m).width ≡ cursor.width
width_is cursor m h = ap (λ (w : Window). w.width) h.window

-- A line feed

pub goes_down : (cursor : Cursor) (m : Memory) → cursor.row + 1 < cursor.bottom → IsCursor cursor m
    → IsCursor (record cursor { row = cursor.row + 1 }) (after_line_feed m)
unfolding after_line_feed
goes_down cursor m low h =
    let bottom = bottom_is cursor m h in
    let row = h.row in
    let is : nat_lt (cursor_row m + 1) (window_of m).bottom ≡ true = grind (arith, nat_tests, bottom, row, low) in
    chosen (IsCursor (record cursor { row = cursor.row + 1 })) (nat_lt (cursor_row m + 1) (window_of m).bottom) _ _ is
    (row_set cursor m (cursor.row + 1) (cursor_row m + 1) h (omega (arith, row)))

pub stays_down : (cursor : Cursor) (m : Memory) → cursor.bottom ≤ cursor.row + 1 → IsCursor cursor m → IsCursor cursor (after_line_feed m)
unfolding after_line_feed
stays_down cursor m high h =
    let bottom = bottom_is cursor m h in
    let row = h.row in
    let is : nat_lt (cursor_row m + 1) (window_of m).bottom ≡ false = grind (arith, nat_tests, bottom, row, high) in
    left (IsCursor cursor) (nat_lt (cursor_row m + 1) (window_of m).bottom) _ _ is (page_set cursor m _ h)

-- A return

pub goes_left : (cursor : Cursor) (m : Memory) (old : ℕ) (P : Memory → Type 0) → IsCursor (record cursor { column = old }) m
    → ((n : Memory) → IsCursor (record cursor { column = 0 }) n → P (after_line_feed n)) → P (after_return m)
unfolding after_return
goes_left cursor m old P h fed = fed (with_cursor_column 0 m) (column_set cursor m old 0 0 h refl)

-- A backspace

pub steps_back : (cursor : Cursor) (m : Memory) → 0 < cursor.column → IsCursor cursor m
    → IsCursor (record cursor { column = cursor.column - 1 }) (after_backspace m)
unfolding after_backspace
steps_back cursor m far h =
    let column = h.column in
    let is : nat_lt 0 (cursor_column m) ≡ true = grind (arith, nat_tests, column, far) in
    chosen (IsCursor (record cursor { column = cursor.column - 1 })) (nat_lt 0 (cursor_column m)) _ _ is
    (column_set cursor m cursor.column (cursor.column - 1) (cursor_column m - 1) h (omega (arith, column)))

module _ (cursor : Cursor) (m : Memory) (edge : cursor.column ≡ 0) (h : IsCursor cursor m) where
  is_edge : nat_lt 0 (cursor_column m) ≡ false
  is_edge = let column = h.column in grind (arith, nat_tests, column, edge)

  wrapped : IsCursor (record cursor { column = cursor.width - 1 }) (with_cursor_column ((window_of m).width - 1) m)
  wrapped =
      let width = width_is cursor m h in
      column_set cursor m cursor.column (cursor.width - 1) ((window_of m).width - 1) h (omega (arith, width))

  pub goes_up : cursor.top < cursor.row → IsCursor (record cursor { row = cursor.row - 1; column = cursor.width - 1 }) (after_backspace m)
  unfolding after_backspace
  goes_up low =
      let top = top_is cursor m h in
      let row = h.row in
      let is : nat_lt (window_of m).top (cursor_row m) ≡ true = grind (arith, nat_tests, top, row, low) in
      let P : Memory → Type 0 = IsCursor (record cursor { row = cursor.row - 1; column = cursor.width - 1 }) in
      left P (nat_lt 0 (cursor_column m)) _ _ is_edge
      (chosen P (nat_lt (window_of m).top (cursor_row m)) _ _ is
      (row_set (record cursor { column = cursor.width - 1 }) _ (cursor.row - 1) (cursor_row m - 1) wrapped (omega (arith, row))))

  pub stays_up : cursor.row ≤ cursor.top → IsCursor (record cursor { column = cursor.width - 1 }) (after_backspace m)
  unfolding after_backspace
  stays_up high =
      let top = top_is cursor m h in
      let row = h.row in
      let is : nat_lt (window_of m).top (cursor_row m) ≡ false = grind (arith, nat_tests, top, row, high) in
      let P : Memory → Type 0 = IsCursor (record cursor { column = cursor.width - 1 }) in
      left P (nat_lt 0 (cursor_column m)) _ _ is_edge (left P (nat_lt (window_of m).top (cursor_row m)) _ _ is wrapped)

-- A character

module _ (byte : ℕ) (cursor : Cursor) (m : Memory) (h : IsCursor cursor m) where
  moved : IsCursor (record cursor { column = cursor.column + 1 })
      (with_cursor_column (cursor_column m + 1) (with_page1 (with_byte m.page1 (cursor_row m) (screen_column m) byte) m))
  moved =
      let column = h.column in
      column_set cursor _ cursor.column (cursor.column + 1) (cursor_column m + 1) (page_set cursor m _ h) (omega (arith, column))

  at_edge : nat_le (window_of m).width (cursor_column m + 1) ≡ nat_le cursor.width (cursor.column + 1)
  at_edge = λ i. nat_le (width_is cursor m h i) (h.column i + 1)

  pub goes_on : nat_le cursor.width (cursor.column + 1) ≡ false → IsCursor (record cursor { column = cursor.column + 1 }) (after_character byte m)
  unfolding after_character
  goes_on inside =
      left (IsCursor (record cursor { column = cursor.column + 1 })) (nat_le (window_of m).width (cursor_column m + 1)) _ _ (at_edge ∙ inside) moved

  pub wraps : (P : Memory → Type 0) → nat_le cursor.width (cursor.column + 1) ≡ true
      → ((n : Memory) → IsCursor (record cursor { column = cursor.column + 1 }) n → P (after_return n)) → P (after_character byte m)
  unfolding after_character
  wraps P edge returned =
      chosen P (nat_le (window_of m).width (cursor_column m + 1)) _ _ (at_edge ∙ edge) (returned _ moved)

-- A byte that is put unmasked

pub put_return : (m : Memory) → after_put_unmasked carriage_return m ≡ after_return m
unfolding after_put_unmasked
put_return m = refl

pub put_line_feed : (m : Memory) → after_put_unmasked line_feed m ≡ after_line_feed m
unfolding after_put_unmasked
put_line_feed m = refl

pub put_backspace : (m : Memory) → after_put_unmasked backspace m ≡ after_backspace m
unfolding after_put_unmasked
put_backspace m = refl

module _ (byte : ℕ) (m : Memory) (no_return : byte ≢ carriage_return) (no_feed : byte ≢ line_feed) (no_back : byte ≢ backspace) where
  abbrev by_control : Bool → Memory
  by_control control =
      if byte == carriage_return then after_return m
      else if byte == line_feed then after_line_feed m
      else if byte == backspace then after_backspace m
      else if control then m
      else after_character byte m

  one_of_two : (control : Bool) → by_control control ≡ (if control then m else after_character byte m)
  one_of_two control =
      let is_no_return : (byte == carriage_return) ≡ false = grind (arith, nat_tests, no_return) in
      let is_no_feed : (byte == line_feed) ≡ false = grind (arith, nat_tests, no_feed) in
      let is_no_back : (byte == backspace) ≡ false = grind (arith, nat_tests, no_back) in
      λ i. if is_no_return i then after_return m
      else if is_no_feed i then after_line_feed m
      else if is_no_back i then after_backspace m
      else if control then m
      else after_character byte m

  pub put_control : (nat_le 0x80 byte && nat_lt byte blank) ≡ true → after_put_unmasked byte m ≡ m
  unfolding after_put_unmasked
  put_control is =
      one_of_two (nat_le 0x80 byte && nat_lt byte blank) ∙ ap (λ v. if v then m else after_character byte m) is

  pub put_character : (nat_le 0x80 byte && nat_lt byte blank) ≡ false → after_put_unmasked byte m ≡ after_character byte m
  unfolding after_put_unmasked
  put_character is =
      one_of_two (nat_le 0x80 byte && nat_lt byte blank) ∙ ap (λ v. if v then m else after_character byte m) is

-- A byte that is put masked

pub put_masked : (byte : ℕ) (m : Memory) → after_put byte m ≡ after_put_unmasked (masked byte m) m
unfolding after_put
put_masked byte m = refl

-- It is the byte under this mask.
pub under_mask : (byte mask : ℕ) (m : Memory) → inverse_mask m ≡ mask → masked_by byte mask ≡ masked byte m
under_mask byte mask m is = ap (λ k. masked_by byte k) (sym is)

-- The mask stays the same.
pub mask_kept : (byte : ℕ) (m : Memory) → inverse_mask (after_put byte m) ≡ inverse_mask m
mask_kept byte m = put-kept at.invflg (outside_of at.invflg refl) byte m

-- A line that is read from keys, without editing keys.
use Rattle.std.specs.Prelude.{◌≡◌, ◌≢◌, ℕ, zero, suc, ◌+◌, ◌-◌, ◌<◌, ◌≤◌, ◌==◌, ◌&&◌, ◌||◌, not, nat_le, nat_lt, Bool, true, false, List, [], ◌∷◌, ◌++◌, length, Option, Some, None, if◌then◌else◌, refl}
use Rattle.std.specs.List.{list_all}
use Rattle.std.proofs.Common.{sym, ap, ◌∙◌, subst, arith, inl}
use Rattle.std.proofs.lemmas.Bool.Decides.{nat_tests}
use Rattle.a2_page.specs.declared.Page.{Page}
use Rattle.a2_page.specs.declared.Page.TheVariants.{One, Two}
use Rattle.a2_page.specs.Cells.{Cell, cell_at, address_of}
use Rattle.a2_page.specs.Grid.{Grid, byte_in}
use Rattle.a2_page.proofs.Finding.{IsCellAtAddress, cell_at-stands}
use Rattle.a2_bus.specs.Devices.{Devices, key_taken}
use Rattle.a2_bus.specs.Memory.{Memory, grid, ram_byte, with_ram}
use Rattle.a2_bus.proofs.Agreement.{written}
use Rattle.a2_bus.proofs.Frame.{ram_byte-with_ram}
use Rattle.a2_bus.proofs.Viewing.{plain_written}
use Rattle.a2_services.specs.Fits.{CursorFits}
use Rattle.a2_services.specs.Put.{window_of, cursor_column, cursor_row, screen_column, with_cursor_column, with_cursor_row, with_page1, after_line_feed, after_return, after_backspace, after_character, after_put, after_put_unmasked}
use Rattle.a2_services.specs.Reading.{kept, reading}
use Rattle.a2_services.specs.Services.{Reading, after_byte, after_cancel, after_prompt, byte_of_key, cleared_to_end, line_read, with_key_taken}
use Rattle.a2_services.proofs.Counting.{cleared_devices}
use Rattle.a2_services.proofs.Fitting.{devices_fit, other_fits, page_fits, put_fits, put_unmasked_fits}
use Rattle.a2_services.proofs.Lines.{after_byte_devices, put_devices, ram_devices}
use Rattle.a2_services.proofs.Reaching.{IsOutside, cleared_to_end-kept, column-kept, page1-kept, put-kept, row-kept}
use Rattle.a2_theorems.proofs.Keeping.{after_stores}
use Rattle.a2_promise_rules.proofs.Meeting.{Whole}
use Rattle.a2_promise_rules.proofs.Printing.{printed_whole, to_end_whole, unmasked_whole}
use Rattle.a2_promise_rules.proofs.Proving.{whole_with}
use Rattle.a2_promise_rules.proofs.Ranges.{both}

-- Keys that are taken

-- after its first key is taken, a memory is still whole, and has the other keys
pub taken_whole : (m : Memory) → Whole m → Whole (with_key_taken m)
unfolding ram_byte
taken_whole m whole = record { bytes = λ a. whole.bytes a; pages = whole.pages }

pub taken_keys : (m : Memory) (key : ℕ) (rest : List ℕ) → m.devices.keys ≡ key ∷ rest → (with_key_taken m).devices.keys ≡ rest
taken_keys m key rest waits =
    ap (λ l. (elim l as (λ _. Devices) [ [] ↦ m.devices | k ∷ more ↦ record m.devices { keys = more; last_key = k } ]).keys) waits

-- Keys of a line

-- a key that gives a byte of a line: not RETURN, left or right arrow, or Ctrl-X
abbrev pub is_plain : ℕ → Bool
is_plain key = nat_lt key 128 && not (key == 0x0D || key == 0x08 || key == 0x15 || key == 0x18)

-- the byte of such a key: lower-case letters become upper-case
abbrev pub plain_byte : ℕ → ℕ
plain_byte key = if nat_le 0xE0 (0x80 + key) then 0x80 + key - 0x20 else 0x80 + key

-- the bytes of a line that starts at an address, and its RETURN
abbrev pub line_stores : (at : ℕ) → List ℕ → List (ℕ × ℕ)
line_stores at [] = (at, 0x8D) ∷ []
line_stores at (key ∷ line) = (at, plain_byte key) ∷ line_stores (at + 1) line

-- A byte of the line is unchanged when a byte is printed

-- a fact about a memory that holds for any page 1, CH and CV also holds after a byte is printed
module _ (P : Memory → Type 0) (page : (cells : Grid) (m : Memory) → P m → P (with_page1 cells m))
    (column : (c : ℕ) (m : Memory) → P m → P (with_cursor_column c m)) (row : (r : ℕ) (m : Memory) → P m → P (with_cursor_row r m)) where
  either : (v : Bool) (x y : Memory) → P x → P y → P (if v then x else y)
  either true x y h g = h
  either false x y h g = g

  behind_feed : (m : Memory) → P m → P (after_line_feed m)
  unfolding after_line_feed
  behind_feed m h = either (nat_lt (cursor_row m + 1) (window_of m).bottom) _ _ (row (cursor_row m + 1) m h) (page _ m h)

  behind_return : (m : Memory) → P m → P (after_return m)
  unfolding after_return
  behind_return m h = behind_feed (with_cursor_column 0 m) (column 0 m h)

  behind_backspace : (m : Memory) → P m → P (after_backspace m)
  unfolding after_backspace
  behind_backspace m h =
      let wrapped = column ((window_of m).width - 1) m h in
      either (nat_lt 0 (cursor_column m)) _ _ (column (cursor_column m - 1) m h)
      (either (nat_lt (window_of m).top (cursor_row m)) _ _ (row (cursor_row m - 1) _ wrapped) wrapped)

  behind_character : (byte : ℕ) (m : Memory) → P m → P (after_character byte m)
  unfolding after_character
  behind_character byte m h =
      let moved = column (cursor_column m + 1) _ (page _ m h) in
      either (nat_le (window_of m).width (cursor_column m + 1)) _ _ (behind_return _ moved) moved

  behind_put : (byte : ℕ) (m : Memory) → P m → P (after_put_unmasked byte m)
  unfolding after_put_unmasked
  behind_put byte m h =
      either (byte == 0x8D) _ _ (behind_return m h)
      (either (byte == 0x8A) _ _ (behind_feed m h)
      (either (byte == 0x88) _ _ (behind_backspace m h)
      (either (nat_le 0x80 byte && nat_lt byte 0xA0) _ _ h (behind_character byte m h))))

-- an address in the input line
pub record InLine (b : ℕ) : Type 0 where
  pub from : 0x200 ≤ b
  pub to : b < 0x300

pub outside : (b : ℕ) → InLine b → IsOutside b
outside b h = record {
  page = inl (omega (arith, h.to));
  column = λ e. omega (arith, e, h.from);
  row = λ e. omega (arith, e, h.from);
  base_low = λ e. omega (arith, e, h.from);
  base_high = λ e. omega (arith, e, h.from);
}

put_unmasked-kept : (b : ℕ) → InLine b → (byte : ℕ) (m : Memory) → ram_byte (after_put_unmasked byte m) b ≡ ram_byte m b
put_unmasked-kept b inside byte m =
    let o : IsOutside b = outside b inside in
    behind_put (λ n. ram_byte n b ≡ ram_byte m b) (λ cells n h. page1-kept b o cells n ∙ h) (λ c n h. column-kept b o c n ∙ h)
    (λ r n h. row-kept b o r n ∙ h) byte m refl

-- it is not the address of a cell
no_cell : (b : ℕ) → InLine b → cell_at b ≡ None
no_cell b inside = go (cell_at b) refl
  where
    at_page : (page : Page) (row column : ℕ) → row < 24 → column < 40 → address_of page row column ≡ b → ⊥
    at_page One row column r c is = omega (arith, is, inside.to)
    at_page Two row column r c is = omega (arith, is, inside.to)

    go : (found : Option Cell) → cell_at b ≡ found → found ≡ None
    go None is = refl
    go (Some cell) is =
        let stands : IsCellAtAddress b cell = cell_at-stands b cell is in
        absurd (at_page cell.page cell.row cell.column stands.row_ok stands.column_ok stands.address_is)

-- storing a byte at an address that already holds it changes nothing
abbrev shows : Memory → ℕ → Option Cell → ℕ
shows m b found = elim found [ Some cell ↦ byte_in (grid m cell.page) cell.row cell.column | None ↦ m.plain b ]

put_back : (m : Memory) (b byte : ℕ) → cell_at b ≡ None → ram_byte m b ≡ byte → with_ram m b byte ≡ m
unfolding ram_byte with_ram
put_back m b byte free is = ap (λ found. written m b byte found) free ∙ (λ i. record m { plain = λ other. same other i })
  where
    plain_is : m.plain b ≡ byte
    plain_is = ap (λ found. shows m b found) (sym free) ∙ is

    same : (other : ℕ) → (if other == b then byte else m.plain other) ≡ m.plain other
    same other = by (other == b) refl
      where
        by : (v : Bool) → (other == b) ≡ v → (if v then byte else m.plain other) ≡ m.plain other
        by true e = let at : other ≡ b = grind (arith, nat_tests, e) in sym plain_is ∙ ap (λ n. m.plain n) (sym at)
        by false e = refl

-- the bytes are at the addresses at which they are stored
abbrev pub Stand : List (ℕ × ℕ) → Memory → Type 0
Stand [] m = Unit {0}
Stand ((at, byte) ∷ later) m = (ram_byte m at ≡ byte) × Stand later m

pub line_put_back : (line : List ℕ) (at : ℕ) (m n : Memory) → 0x200 ≤ at → at + length line < 0x300
    → ((b : ℕ) → InLine b → ram_byte n b ≡ ram_byte m b) → Stand (line_stores at line) m → after_stores (line_stores at line) n ≡ n
line_put_back [] at m n from to same (is, none) =
    let inside : InLine at = record { from = from; to = omega (arith, to) } in
    put_back n at 0x8D (no_cell at inside) (same at inside ∙ is)
line_put_back (key ∷ line) at m n from to same (is, more) =
    let inside : InLine at = record { from = from; to = omega (arith, to) } in
    ap (after_stores (line_stores (at + 1) line)) (put_back n at (plain_byte key) (no_cell at inside) (same at inside ∙ is))
    ∙ line_put_back line (at + 1) m n (omega (arith, from)) (omega (arith, to)) same more

-- A line is read

-- the result of reading a line, starting from a memory in which this many bytes of the line were there before
pub record IsRead (line rest : List ℕ) (m : Memory) (len : ℕ) (last : Reading) : Type 0 where
  pub len_is : last.len ≡ len + length line
  pub whole : Whole last.memory
  pub fits : CursorFits last.memory
  pub keys : last.memory.devices.keys ≡ rest
  pub stand : Stand (line_stores (0x200 + len) line) last.memory
  pub early : (b : ℕ) → 0x200 ≤ b → b < 0x200 + len → ram_byte last.memory b ≡ ram_byte m b

-- a memory after its first key is taken and a byte of the line is stored
record IsNoted (m : Memory) (len byte : ℕ) (rest : List ℕ) (n : Memory) : Type 0 where
  whole : Whole n
  fits : CursorFits n
  keys : n.devices.keys ≡ rest
  stands : ram_byte n (0x200 + len) ≡ byte
  early : (b : ℕ) → b < 0x200 + len → ram_byte n b ≡ ram_byte m b

noted : (m : Memory) (len byte key : ℕ) (rest : List ℕ) → len < 256 → byte < 256 → Whole m → CursorFits m
    → m.devices.keys ≡ key ∷ rest → IsNoted m len byte rest (kept m len byte)
unfolding ram_byte
noted m len byte key rest short small whole fits waits = record {
  whole = whole_with taken (0x200 + len) byte (taken_whole m whole) small;
  fits = other_fits taken (0x200 + len) byte (omega arith) (devices_fit m (key_taken m.devices) fits);
  keys = ap (λ (d : Devices). d.keys) (ram_devices taken (0x200 + len) byte) ∙ taken_keys m key rest waits;
  stands = plain_written taken (0x200 + len) byte (no_cell (0x200 + len) (record { from = omega arith; to = omega (arith, short) }));
  early = λ b less. ram_byte-with_ram taken (0x200 + len) byte b (λ e. omega (arith, e, less));
}
  where
    taken : Memory
    taken = with_key_taken m

-- RETURN ends it
line_ended : (rest : List ℕ) (m : Memory) (len : ℕ) → len < 256 → Whole m → CursorFits m → m.devices.keys ≡ 0x0D ∷ rest
    → IsRead [] rest m len (line_read (0x0D ∷ rest) (reading m len))
unfolding line_read cleared_to_end
line_ended rest m len short whole fits waits = record {
  len_is = omega arith;
  whole = printed_whole 0x8D cleared (to_end_whole before is.whole is.fits) cleared_fits (omega arith);
  fits = put_fits 0x8D cleared cleared_fits;
  keys = ap (λ (d : Devices). d.keys) (put_devices 0x8D cleared ∙ cleared_devices before) ∙ is.keys;
  stand = (same (0x200 + len) (record { from = omega arith; to = omega (arith, short) }) ∙ is.stands, tt);
  early = λ b from less. same b (record { from = from; to = omega (arith, less, short) }) ∙ is.early b less;
}
  where
    before : Memory
    before = kept m len 0x8D

    is : IsNoted m len 0x8D rest before
    is = noted m len 0x8D 0x0D rest short (omega arith) whole fits waits

    cleared : Memory
    cleared = cleared_to_end before

    cleared_fits : CursorFits cleared
    cleared_fits = page_fits before _ is.fits

    same : (b : ℕ) → InLine b → ram_byte (after_put 0x8D cleared) b ≡ ram_byte before b
    same b inside = put-kept b (outside b inside) 0x8D cleared ∙ cleared_to_end-kept b (outside b inside) before

-- what the tests for a plain key establish
record IsPlain (key : ℕ) : Type 0 where
  low : key < 128
  no_return : (plain_byte key == 0x8D) ≡ false
  no_backspace : (plain_byte key == 0x88) ≡ false
  no_cancel : (plain_byte key == 0x98) ≡ false
  no_arrow : (key == 0x15) ≡ false
  small : plain_byte key < 256

plain_of : (key : ℕ) → is_plain key ≡ true → IsPlain key
plain_of key plain = by (nat_le 0xE0 (0x80 + key)) refl
  where
    low : key < 128
    low = grind (arith, nat_tests, plain)

    no_return : key ≢ 0x0D
    no_return = grind (arith, nat_tests, plain)

    no_backspace : key ≢ 0x08
    no_backspace = grind (arith, nat_tests, plain)

    no_cancel : key ≢ 0x18
    no_cancel = grind (arith, nat_tests, plain)

    no_arrow : (key == 0x15) ≡ false
    no_arrow = grind (arith, nat_tests, plain)

    other : (m n : ℕ) → m ≢ n → (m == n) ≡ false
    other m n h = grind (arith, nat_tests, h)

    made : (byte : ℕ) → plain_byte key ≡ byte → byte ≢ 0x8D → byte ≢ 0x88 → byte ≢ 0x98 → byte < 256 → IsPlain key
    made byte is a b c small = record {
      low = low;
      no_return = ap (λ n. n == 0x8D) is ∙ other byte 0x8D a;
      no_backspace = ap (λ n. n == 0x88) is ∙ other byte 0x88 b;
      no_cancel = ap (λ n. n == 0x98) is ∙ other byte 0x98 c;
      no_arrow = no_arrow;
      small = subst (λ n. n < 256) (sym is) small;
    }

    by : (v : Bool) → nat_le 0xE0 (0x80 + key) ≡ v → IsPlain key
    by true is =
        let from : 0x60 ≤ key = grind (arith, nat_tests, is) in
        made (0x80 + key - 0x20) (ap (λ v. if v then 0x80 + key - 0x20 else 0x80 + key) is)
        (λ e. omega (arith, e, from)) (λ e. omega (arith, e, from)) (λ e. omega (arith, e, from)) (omega (arith, low))
    by false is =
        made (0x80 + key) (ap (λ v. if v then 0x80 + key - 0x20 else 0x80 + key) is)
        (λ e. no_return (omega (arith, e))) (λ e. no_backspace (omega (arith, e))) (λ e. no_cancel (omega (arith, e)))
        (omega (arith, low))

-- a plain key adds its byte to the line, and the byte is printed
module _ (m : Memory) (len key : ℕ) (line rest : List ℕ) (plain : IsPlain key) (short : len < 255) (whole : Whole m) (fits : CursorFits m)
    (waits : m.devices.keys ≡ key ∷ (line ++ (0x0D ∷ rest))) where
  -- the keys after it
  abbrev others : List ℕ
  others = line ++ (0x0D ∷ rest)

  abbrev byte : ℕ
  byte = plain_byte key

  abbrev longer : Memory
  longer = kept m len byte

  abbrev following : Memory
  following = after_put_unmasked byte longer

  byte_is : byte_of_key m key ≡ byte
  byte_is = ap (λ v. let b = if v then byte_in m.page1 (cursor_row m) (screen_column m) else 0x80 + key in
      if nat_le 0xE0 b then b - 0x20 else b) plain.no_arrow

  full : (len == 255) ≡ false
  full = grind (arith, nat_tests, short)

  put_is : after_byte byte (reading longer len) ≡ reading following (len + 1)
  put_is = λ i.
      if plain.no_backspace i then elim len as (λ _. Reading) [
        | zero ↦ record { memory = after_prompt following; len = 0 }
        | suc k ↦ record { memory = following; len = k }
      ]
      else if plain.no_cancel i then after_cancel following
      else if full i then after_cancel following
      else reading following (len + 1)

  goes_on : line_read (key ∷ others) (reading m len) ≡ line_read others (reading following (len + 1))
  unfolding line_read
  goes_on =
      ap (λ b. if b == 0x8D then reading (after_put 0x8D (cleared_to_end (kept m len b))) len
      else line_read others (after_byte b (reading (kept m len b) len))) byte_is
      ∙ ap (λ v. if v then reading (after_put 0x8D (cleared_to_end longer)) len
      else line_read others (after_byte byte (reading longer len))) plain.no_return
      ∙ ap (λ r. line_read others r) put_is

  noted_is : IsNoted m len byte others longer
  noted_is = noted m len byte key others (omega (arith, short)) plain.small whole fits waits

  behind_whole : Whole following
  behind_whole = unmasked_whole byte longer noted_is.whole noted_is.fits plain.small

  behind_fits : CursorFits following
  behind_fits = put_unmasked_fits byte longer noted_is.fits

  behind_keys : following.devices.keys ≡ others
  behind_keys =
      ap (λ (r : Reading). r.memory.devices.keys) (sym put_is)
      ∙ ap (λ (d : Devices). d.keys) (after_byte_devices byte (reading longer len)) ∙ noted_is.keys

  -- a line that is read after this key is read from this key on
  one_more : (last : Reading) → IsRead line rest following (len + 1) last → IsRead (key ∷ line) rest m len last
  one_more last later = record {
    len_is = omega (arith, later.len_is);
    whole = later.whole;
    fits = later.fits;
    keys = later.keys;
    stand = (
      later.early (0x200 + len) (omega arith) (omega arith) ∙ stays (0x200 + len) (omega arith) (omega arith) ∙ noted_is.stands,
      subst (λ at. Stand (line_stores at line) last.memory) next later.stand,
    );
    early = λ b from less. later.early b from (omega (arith, less)) ∙ stays b from (omega (arith, less)) ∙ noted_is.early b less;
  }
    where
      next : 0x200 + (len + 1) ≡ 0x200 + len + 1
      next = omega arith

      stays : (b : ℕ) → 0x200 ≤ b → b < 0x200 + len + 1 → ram_byte following b ≡ ram_byte longer b
      stays b from less = put_unmasked-kept b (record { from = from; to = omega (arith, less, short) }) byte longer

pub line_is_read : (line rest : List ℕ) (m : Memory) (len : ℕ) → list_all is_plain line ≡ true → len + length line < 256 → Whole m
    → CursorFits m → m.devices.keys ≡ line ++ (0x0D ∷ rest) → IsRead line rest m len (line_read (line ++ (0x0D ∷ rest)) (reading m len))
line_is_read [] rest m len plain short whole fits waits = line_ended rest m len (omega (arith, short)) whole fits waits
line_is_read (key ∷ line) rest m len plain short whole fits waits =
    let two = both (is_plain key) (list_all is_plain line) plain in
    let is : IsPlain key = plain_of key two.0 in
    let room : len < 255 = omega (arith, short) in
    subst (IsRead (key ∷ line) rest m len) (sym (goes_on m len key line rest is room whole fits waits))
    (one_more m len key line rest is room whole fits waits _
    (line_is_read line rest (following m len key line rest is room whole fits waits) (len + 1) two.1 (omega (arith, short))
    (behind_whole m len key line rest is room whole fits waits) (behind_fits m len key line rest is room whole fits waits)
    (behind_keys m len key line rest is room whole fits waits)))

-- Window, cursor and base address of two memories that agree in the bytes that hold them.
use Rattle.std.specs.Prelude.{◌≡◌, ℕ, ◌+◌, ◌/◌, ◌%◌, Bool, ◌&&◌, nat_lt, nat_le, [], ◌∷◌}
use Rattle.std.proofs.Common.{ap, subst, arith}
use Rattle.a2_page.specs.declared.Page.TheVariants.{One}
use Rattle.a2_page.specs.Cells.{row_start}
use Rattle.a2_page.specs.Grid.{Window}
use Rattle.a2_bus.specs.Locations as at
use Rattle.a2_bus.specs.Memory.{Memory, with_ram}
use Rattle.a2_services.specs.Put.{window_of, cursor_column, cursor_row, screen_column, with_base_address}
use Rattle.a2_services.specs.Services.{window_fits, cursor_fits}
use Rattle.a2_footprint.specs.Reads.{AgreeOn, Knows, with_bytes}
use Rattle.a2_footprint.specs.Services.{window_bytes, cursor_bytes, base_bytes}
use Rattle.a2_footprint.proofs.Storing.{Stored, stored_byte, stored_both}

-- two memories with the same window and cursor
pub record SameCursor (m n : Memory) : Type 0 where
  pub window : window_of m ≡ window_of n
  pub row : cursor_row m ≡ cursor_row n
  pub column : cursor_column m ≡ cursor_column n
  pub screen : screen_column m ≡ screen_column n

pub same_window : (known : ℕ → Bool) (m n : Memory) → AgreeOn known m n → Knows known window_bytes → window_of m ≡ window_of n
same_window known m n h k = λ i. record {
  left = h.bytes at.wndlft (omega arith) k.0 i;
  width = h.bytes at.wndwdth (omega arith) k.1.0 i;
  top = h.bytes at.wndtop (omega arith) k.1.1.0 i;
  bottom = h.bytes at.wndbtm (omega arith) k.1.1.1.0 i;
}

pub same_cursor : (known : ℕ → Bool) (m n : Memory) → AgreeOn known m n → Knows known cursor_bytes → SameCursor m n
same_cursor known m n h k =
    let window : window_of m ≡ window_of n = same_window known m n h k.1.1 in
    let column : cursor_column m ≡ cursor_column n = h.bytes at.ch (omega arith) k.0 in
    record {
      window = window;
      row = h.bytes at.cv (omega arith) k.1.0;
      column = column;
      screen = λ i. let w : Window = window i in w.left + column i;
    }

-- the same base address is stored in both
pub basing : (known : ℕ → Bool) (m n : Memory) → AgreeOn known m n → window_of m ≡ window_of n → cursor_row m ≡ cursor_row n
    → Stored known base_bytes m n (with_base_address m) (with_base_address n)
unfolding with_base_address
basing known m n agree window row =
    let base = row_start One (cursor_row m) + (window_of m).left in
    let other = row_start One (cursor_row n) + (window_of n).left in
    let same : base ≡ other = λ i. let w : Window = window i in row_start One (row i) + w.left in
    let P : ℕ → Type 0 = λ b. Stored known base_bytes m n
    (with_ram (with_ram m at.basl (base % 256)) at.bash (base / 256)) (with_ram (with_ram n at.basl (b % 256)) at.bash (b / 256)) in
    let low : Stored known (at.basl ∷ []) m n (with_ram m at.basl (base % 256)) (with_ram n at.basl (base % 256)) =
    stored_byte known m n at.basl (base % 256) agree in
    subst P same
    (stored_both known (at.basl ∷ []) (at.bash ∷ []) m n (with_ram m at.basl (base % 256)) (with_ram n at.basl (base % 256)) _ _ low
    (stored_byte (with_bytes (at.basl ∷ []) known) _ _ at.bash (base / 256) low.agree))

-- they are on the screen in both

pub same_window_fits : (m n : Memory) → window_of m ≡ window_of n → window_fits m ≡ window_fits n
same_window_fits m n window =
    ap (λ (w : Window). nat_le 1 w.width && nat_le (w.left + w.width) 40 && nat_lt w.top w.bottom && nat_le w.bottom 24) window

pub same_fits : (m n : Memory) → SameCursor m n → (window_fits m && cursor_fits m) ≡ (window_fits n && cursor_fits n)
same_fits m n same = λ i. same_window_fits m n same.window i && (nat_lt (same.row i) 24 && nat_lt (same.screen i) 40)

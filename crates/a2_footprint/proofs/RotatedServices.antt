-- A service that needs no key does the same if the stack is rotated.
use Rattle.std.specs.Prelude.{◌≡◌, ℕ, ◌+◌, ◌-◌, ◌*◌, ◌/◌, ◌%◌, Bool, true, false, ◌&&◌, ◌==◌, nat_lt, nat_le, if◌then◌else◌, List, [], ◌∷◌, replicate, refl}
use Rattle.std.proofs.Common.{sym, ap, ap₂, ◌∙◌, subst, subst₂, arith, true≢false}
use Rattle.a2_page.specs.declared.Page.TheVariants.{One}
use Rattle.a2_page.specs.Cells.{row_start}
use Rattle.a2_page.specs.Grid.{Window, blank, byte_in, cleared, scrolled, with_byte, with_row_part}
use Rattle.a2_page.specs.Text.{block, blocks_of, plotted}
use Rattle.a2_bus.specs.Locations as at
use Rattle.a2_bus.specs.Memory.{Memory, ram_byte, with_ram}
use Rattle.a2_effect.specs.Registers.{Registers}
use Rattle.a2_services.specs.declared.rows.Service.{Service}
use Rattle.a2_services.specs.declared.rows.Service.TheVariants.{Cout, Cout1, Crout, Home, Prbyte, Prhex, Vtab, Clreol, Clreop, Rdkey, Keyin, Getln, Wait, Plot, Hline, Vline, Scrn, Clrscr}
use Rattle.a2_services.specs.declared.rows.Needs.{Needs}
use Rattle.a2_services.specs.declared.rows.Needs.TheVariants as need
use Rattle.a2_services.specs.declared.rows.Takes.{Takes}
use Rattle.a2_services.specs.declared.rows.Takes.TheVariants as span
use Rattle.a2_services.specs.Rows.{service_row}
use Rattle.a2_services.specs.Blocks.{black, half_of, painted, painted_across, painted_down, numbers_from_to}
use Rattle.a2_services.specs.Bytes.{backspace, carriage_return, line_feed}
use Rattle.a2_services.specs.Put.{window_of, cursor_column, cursor_row, screen_column, with_page1, with_cursor_column, with_cursor_row, after_line_feed, after_return, after_backspace, after_character, after_put_unmasked, after_put, masked_by, with_base_address}
use Rattle.a2_services.specs.Services.{back, block_fits, cleared_below, cleared_to_end, cycles_of, digit_byte, effect, fits, positions_fit, output, served, through, with_a, with_memory}
use Rattle.a2_services.specs.World.{World}
use Rattle.a2_services.proofs.Counting.{returned_devices}
use Rattle.a2_services.proofs.Returning.{returned_is}
use Rattle.a2_footprint.specs.InstructionReads.{pull_address}
use Rattle.a2_footprint.specs.Calls.{caller}
use Rattle.a2_footprint.specs.Services.{is_keyless}
use Rattle.a2_footprint.specs.RotatedStack.{in_stack, rotated_memory, IsRotated}
use Rattle.a2_footprint.proofs.Placing.{SameCursor, same_window_fits, same_fits}
use Rattle.a2_footprint.proofs.RotatedMemory.{pulled_place, same_beside, store_beside, turned_byte}
use Rattle.a2_footprint.proofs.Ways.{called_from, returned_registers}

-- a return changes only S and PC
back_is : (w : World) → back w ≡ record w { registers = called_from w }
back_is w = λ i. record {
  registers = returned_registers w i;
  memory = returned_devices w i;
  cycles = ap (λ (x : World). x.cycles) (returned_is w) i;
}

-- a service fits in both worlds or in neither, and leaves the stack rotated
abbrev pub ServedAlike : Service → ℕ → World → World → Type 0
ServedAlike service turn world other =
    (fits service other.registers other.memory ≡ fits service world.registers world.memory)
    × IsRotated turn (served service world) (served service other)

module _ (turn : ℕ) where
  -- Window and cursor

  same : (m : Memory) → SameCursor (rotated_memory turn m) m
  same m =
      let window : window_of (rotated_memory turn m) ≡ window_of m = λ i. record {
        left = same_beside turn m at.wndlft refl i;
        width = same_beside turn m at.wndwdth refl i;
        top = same_beside turn m at.wndtop refl i;
        bottom = same_beside turn m at.wndbtm refl i;
      } in
      let column : cursor_column (rotated_memory turn m) ≡ cursor_column m = same_beside turn m at.ch refl in
      record {
        window = window;
        row = same_beside turn m at.cv refl;
        column = column;
        screen = λ i. let w : Window = window i in w.left + column i;
      }

  -- a byte is stored in the same way in a rotated memory
  store : (m n : Memory) (a v : ℕ) → in_stack a ≡ false → n ≡ rotated_memory turn m → with_ram n a v ≡ rotated_memory turn (with_ram m a v)
  store m n a v out is = ap (λ x. with_ram x a v) is ∙ store_beside turn m a v out

  either : (b : Bool) (x y m n : Memory) → x ≡ rotated_memory turn m → y ≡ rotated_memory turn n
      → (if b then x else y) ≡ rotated_memory turn (if b then m else n)
  either true x y m n is _ = is
  either false x y m n _ is = is

  -- What is printed

  line_feed_turned : (m : Memory) → after_line_feed (rotated_memory turn m) ≡ rotated_memory turn (after_line_feed m)
  unfolding after_line_feed
  line_feed_turned m =
      let s = same m in
      (λ i. let w : Window = s.window i in
      if nat_lt (s.row i + 1) w.bottom then with_cursor_row (s.row i + 1) (rotated_memory turn m)
      else with_page1 (scrolled w m.page1) (rotated_memory turn m))
      ∙ either (nat_lt (cursor_row m + 1) (window_of m).bottom) _ _ _ _ (store_beside turn m at.cv (cursor_row m + 1) refl) refl

  return_turned : (m : Memory) → after_return (rotated_memory turn m) ≡ rotated_memory turn (after_return m)
  unfolding after_return
  return_turned m = ap after_line_feed (store_beside turn m at.ch 0 refl) ∙ line_feed_turned (with_cursor_column 0 m)

  backspace_turned : (m : Memory) → after_backspace (rotated_memory turn m) ≡ rotated_memory turn (after_backspace m)
  unfolding after_backspace
  backspace_turned m =
      let s = same m in
      let last = (window_of m).width - 1 in
      let wrapped : with_cursor_column last (rotated_memory turn m) ≡ rotated_memory turn (with_cursor_column last m) = store_beside turn m at.ch last refl in
      (λ i. let w : Window = s.window i in
      if nat_lt 0 (s.column i) then with_cursor_column (s.column i - 1) (rotated_memory turn m)
      else if nat_lt w.top (s.row i) then with_cursor_row (s.row i - 1) (with_cursor_column (w.width - 1) (rotated_memory turn m))
      else with_cursor_column (w.width - 1) (rotated_memory turn m))
      ∙ either (nat_lt 0 (cursor_column m)) _ _ _ _ (store_beside turn m at.ch (cursor_column m - 1) refl)
      (either (nat_lt (window_of m).top (cursor_row m)) _ _ _ _ (store _ _ at.cv (cursor_row m - 1) refl wrapped) wrapped)

  character_turned : (byte : ℕ) (m : Memory) → after_character byte (rotated_memory turn m) ≡ rotated_memory turn (after_character byte m)
  unfolding after_character
  character_turned byte m =
      let s = same m in
      let written : Memory = with_page1 (with_byte m.page1 (cursor_row m) (screen_column m) byte) m in
      let next = cursor_column m + 1 in
      let moved : with_cursor_column next (rotated_memory turn written) ≡ rotated_memory turn (with_cursor_column next written) =
      store_beside turn written at.ch next refl in
      (λ i. let w : Window = s.window i in
      let moved : Memory = with_cursor_column (s.column i + 1) (with_page1 (with_byte m.page1 (s.row i) (s.screen i) byte) (rotated_memory turn m)) in
      if nat_le w.width (s.column i + 1) then after_return moved else moved)
      ∙ either (nat_le (window_of m).width next) _ _ _ _ (ap after_return moved ∙ return_turned (with_cursor_column next written)) moved

  put_unmasked_turned : (byte : ℕ) (m : Memory) → after_put_unmasked byte (rotated_memory turn m) ≡ rotated_memory turn (after_put_unmasked byte m)
  unfolding after_put_unmasked
  put_unmasked_turned byte m =
      either (byte == carriage_return) _ _ _ _ (return_turned m)
      (either (byte == line_feed) _ _ _ _ (line_feed_turned m)
      (either (byte == backspace) _ _ _ _ (backspace_turned m)
      (either (nat_le 0x80 byte && nat_lt byte blank) _ _ _ _ refl (character_turned byte m))))

  put_turned : (byte : ℕ) (m : Memory) → after_put byte (rotated_memory turn m) ≡ rotated_memory turn (after_put byte m)
  unfolding after_put
  put_turned byte m =
      ap (λ mask. after_put_unmasked (masked_by byte mask) (rotated_memory turn m)) (same_beside turn m at.invflg refl)
      ∙ put_unmasked_turned _ m

  base_turned : (m : Memory) → with_base_address (rotated_memory turn m) ≡ rotated_memory turn (with_base_address m)
  unfolding with_base_address
  base_turned m =
      let s = same m in
      let base = row_start One (cursor_row m) + (window_of m).left in
      (λ i. let w : Window = s.window i in
      let base = row_start One (s.row i) + w.left in
      with_ram (with_ram (rotated_memory turn m) at.basl (base % 256)) at.bash (base / 256))
      ∙ store _ _ at.bash (base / 256) refl (store_beside turn m at.basl (base % 256) refl)

  -- What is cleared and plotted

  to_end_turned : (m : Memory) → cleared_to_end (rotated_memory turn m) ≡ rotated_memory turn (cleared_to_end m)
  unfolding cleared_to_end
  to_end_turned m =
      let s = same m in
      λ i. let w : Window = s.window i in
      with_page1 (with_row_part m.page1 (s.row i) (s.screen i) (replicate (w.width - s.column i) blank)) (rotated_memory turn m)

  below_turned : (m : Memory) → cleared_below (rotated_memory turn m) ≡ rotated_memory turn (cleared_below m)
  below_turned m =
      let s = same m in
      λ i. let below : Window = record (s.window i) { top = s.row i + 1 } in with_page1 (cleared below m.page1) (rotated_memory turn m)

  -- the window cleared, and the cursor at its start
  abbrev homed : Window → Memory → Memory
  homed window m = with_cursor_row window.top (with_cursor_column 0 (with_page1 (cleared window m.page1) m))

  home_turned : (m : Memory) → homed (window_of (rotated_memory turn m)) (rotated_memory turn m) ≡ rotated_memory turn (homed (window_of m) m)
  home_turned m =
      ap (λ window. homed window (rotated_memory turn m)) (same m).window
      ∙ store _ _ at.cv (window_of m).top refl (store_beside turn (with_page1 (cleared (window_of m) m.page1) m) at.ch 0 refl)

  painted_turned : (row column : ℕ) (m : Memory) → painted row column (rotated_memory turn m) ≡ rotated_memory turn (painted row column m)
  unfolding painted
  painted_turned row column m =
      ap (λ colour. with_page1 (plotted row column (block colour (half_of row)) m.page1) (rotated_memory turn m)) (same_beside turn m at.color refl)

  across_turned : (row : ℕ) (columns : List ℕ) (m : Memory)
      → painted_across row columns (rotated_memory turn m) ≡ rotated_memory turn (painted_across row columns m)
  across_turned row [] m = refl
  across_turned row (column ∷ columns) m =
      ap (λ n. painted_across row columns n) (painted_turned row column m) ∙ across_turned row columns (painted row column m)

  down_turned : (rows : List ℕ) (column : ℕ) (m : Memory)
      → painted_down rows column (rotated_memory turn m) ≡ rotated_memory turn (painted_down rows column m)
  down_turned [] column m = refl
  down_turned (row ∷ rows) column m =
      ap (λ n. painted_down rows column n) (painted_turned row column m) ∙ down_turned rows column (painted row column m)

  -- Where execution continues after a service

  same_pulled : (w v : World) (count : ℕ) → IsRotated turn w v
      → ram_byte w.memory (pull_address w.registers.s count) ≡ ram_byte v.memory (pull_address v.registers.s count)
  same_pulled w v count h =
      ap (λ s. ram_byte w.memory (pull_address s count)) (sym h.s)
      ∙ ap (λ a. ram_byte w.memory a) (sym (pulled_place turn v.registers.s count))
      ∙ sym (turned_byte turn w.memory (pull_address v.registers.s count))
      ∙ ap (λ m. ram_byte m (pull_address v.registers.s count)) (sym h.memory)

  back_turned : (w v : World) → IsRotated turn w v → IsRotated turn (back w) (back v)
  back_turned w v h =
      subst₂ (λ p q. IsRotated turn p q) (sym (back_is w)) (sym (back_is v)) (record {
        registers = λ i. record (h.registers i) { s = (w.registers.s + 2) % 256; pc = called i };
        low = omega arith;
        s = raised;
        memory = h.memory;
        cycles = h.cycles;
      })
    where
      called : caller w ≡ caller v
      called = ap₂ (λ low high. (low + 256 * high + 1) % 65536) (same_pulled w v 1 h) (same_pulled w v 2 h)

      raised : ((v.registers.s + 2) % 256 + turn) % 256 ≡ (w.registers.s + 2) % 256
      raised = let s : (v.registers.s + turn) % 256 ≡ w.registers.s = h.s in omega (arith, s)

  -- with a memory that was left
  left_turned : (w v : World) (m n : Memory) → IsRotated turn w v → n ≡ rotated_memory turn m
      → IsRotated turn (back (with_memory m w)) (back (with_memory n v))
  left_turned w v m n h is =
      back_turned (with_memory m w) (with_memory n v)
      (record { registers = h.registers; low = h.low; s = h.s; memory = is; cycles = h.cycles })

  output_turned : (w v : World) (m n : Memory) → IsRotated turn w v → n ≡ rotated_memory turn m
      → IsRotated turn (back (output m w)) (back (output n v))
  output_turned w v m n h is = left_turned w v (with_base_address m) (with_base_address n) h (ap with_base_address is ∙ base_turned m)

  with_a_turned : (w v : World) (a : ℕ) → IsRotated turn w v → IsRotated turn (with_a a w) (with_a a v)
  with_a_turned w v a h =
      record { registers = ap (λ (r : Registers). record r { a = a }) h.registers; low = h.low; s = h.s; memory = h.memory; cycles = h.cycles }

  through_turned : (w v : World) (hook : ℕ) → in_stack hook ≡ false → in_stack (hook + 1) ≡ false → IsRotated turn w v
      → IsRotated turn (through hook w) (through hook v)
  through_turned w v hook low high h = record {
    registers = λ i. record (h.registers i) { pc = byte hook low i + 256 * byte (hook + 1) high i };
    low = h.low;
    s = h.s;
    memory = h.memory;
    cycles = h.cycles;
  }
    where
      byte : (a : ℕ) → in_stack a ≡ false → ram_byte w.memory a ≡ ram_byte v.memory a
      byte a out = sym (ap (λ m. ram_byte m a) h.memory ∙ same_beside turn w.memory a out)

  -- Each service

  -- the world with its stack rotated, and this S
  abbrev turned_world : ℕ → World → World
  turned_world s w = record { registers = record w.registers { s = s }; memory = rotated_memory turn w.memory; cycles = w.cycles }

  is_turned_world : (w v : World) → IsRotated turn w v → v ≡ turned_world v.registers.s w
  is_turned_world w v h = λ i. record {
    registers = record (sym h.registers i) { s = v.registers.s };
    memory = h.memory i;
    cycles = h.cycles i;
  }

  same_needs : (needs : Needs) (r : Registers) (s : ℕ) (m : Memory)
      → positions_fit needs (record r { s = s }) (rotated_memory turn m) ≡ positions_fit needs r m
  same_needs need.Window r s m = same_window_fits (rotated_memory turn m) m (same m).window
  same_needs need.Cursor r s m = same_fits (rotated_memory turn m) m (same m)
  same_needs need.Line r s m = same_fits (rotated_memory turn m) m (same m)
  same_needs need.Across r s m = ap (λ end. block_fits r && nat_lt end 40) (same_beside turn m at.h2 refl)
  same_needs need.Down r s m = ap (λ end. block_fits r && nat_lt end 48) (same_beside turn m at.v2 refl)
  same_needs needs r s m = refl

  same_span : (takes : Takes) (r : Registers) (s : ℕ) → cycles_of takes (record r { s = s }) ≡ cycles_of takes r
  same_span span.OutputHook r s = refl
  same_span span.InputHook r s = refl
  same_span span.Six r s = refl
  same_span span.Wait r s = refl

  effect_turned : (service : Service) (w : World) (s : ℕ) → IsRotated turn w (turned_world s w) → is_keyless service ≡ true
      → IsRotated turn (effect service w) (effect service (turned_world s w))
  unfolding effect
  effect_turned Cout w s h keyless = through_turned w _ at.csw refl refl h
  effect_turned Cout1 w s h keyless = output_turned w _ _ _ h (put_turned w.registers.a w.memory)
  effect_turned Crout w s h keyless =
      through_turned (with_a carriage_return w) _ at.csw refl refl (with_a_turned w _ carriage_return h)
  effect_turned Home w s h keyless = output_turned w _ _ _ h (home_turned w.memory)
  effect_turned Prbyte w s h keyless =
      let high = digit_byte (w.registers.a / 16) in
      let low = digit_byte (w.registers.a % 16) in
      output_turned w _ _ _ h (ap (λ m. after_put low m) (put_turned high w.memory) ∙ put_turned low (after_put high w.memory))
  effect_turned Prhex w s h keyless = output_turned w _ _ _ h (put_turned (digit_byte (w.registers.a % 16)) w.memory)
  effect_turned Vtab w s h keyless = output_turned w _ w.memory _ h refl
  effect_turned Clreol w s h keyless = left_turned w _ _ _ h (to_end_turned w.memory)
  effect_turned Clreop w s h keyless =
      output_turned w _ _ _ h (ap (λ m. cleared_below m) (to_end_turned w.memory) ∙ below_turned (cleared_to_end w.memory))
  effect_turned Rdkey w s h keyless = through_turned w _ at.ksw refl refl h
  effect_turned Keyin w s h bad = absurd (true≢false (sym bad))
  effect_turned Getln w s h bad = absurd (true≢false (sym bad))
  effect_turned Wait w s h keyless = back_turned (with_a 0 w) _ (with_a_turned w _ 0 h)
  effect_turned Plot w s h keyless = left_turned w _ _ _ h (painted_turned w.registers.a w.registers.y w.memory)
  effect_turned Hline w s h keyless =
      left_turned w _ _ _ h
      (ap (λ end. painted_across w.registers.a (numbers_from_to w.registers.y end) (rotated_memory turn w.memory)) (same_beside turn w.memory at.h2 refl)
      ∙ across_turned w.registers.a (numbers_from_to w.registers.y (ram_byte w.memory at.h2)) w.memory)
  effect_turned Vline w s h keyless =
      left_turned w _ _ _ h
      (ap (λ end. painted_down (numbers_from_to w.registers.a end) w.registers.y (rotated_memory turn w.memory)) (same_beside turn w.memory at.v2 refl)
      ∙ down_turned (numbers_from_to w.registers.a (ram_byte w.memory at.v2)) w.registers.y w.memory)
  effect_turned Scrn w s h keyless =
      let colour : ℕ = byte_in (blocks_of w.memory.page1) w.registers.a w.registers.y in
      back_turned (with_a colour w) _ (with_a_turned w _ colour h)
  effect_turned Clrscr w s h keyless =
      left_turned w _ _ _ h (store _ _ at.v2 47 refl (store_beside turn (with_page1 black w.memory) at.color 0 refl))
  -- a service whose row allows a store at one byte
  effect_turned _ w s h keyless = left_turned w _ _ _ h (store_beside turn w.memory _ _ refl)

  service_turned : (service : Service) (w : World) (s : ℕ) → IsRotated turn w (turned_world s w) → is_keyless service ≡ true
      → ServedAlike service turn w (turned_world s w)
  unfolding served
  service_turned service w s h keyless =
      let left : IsRotated turn (effect service w) (effect service (turned_world s w)) = effect_turned service w s h keyless in (
        same_needs (service_row service).needs w.registers s w.memory,
        record {
          registers = left.registers;
          low = left.low;
          s = left.s;
          memory = left.memory;
          cycles = ap (λ n. w.cycles + n) (same_span (service_row service).takes w.registers s);
        },
      )

pub served_turned : (service : Service) (turn : ℕ) (world other : World) → IsRotated turn world other → is_keyless service ≡ true
    → ServedAlike service turn world other
served_turned service turn world other h keyless =
    let is : other ≡ turned_world turn other.registers.s world = is_turned_world turn world other h in
    subst (λ v. ServedAlike service turn world v) (sym is)
    (service_turned turn service world other.registers.s (subst (λ v. IsRotated turn world v) is h) keyless)

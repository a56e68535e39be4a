-- The memories that the services that print bytes leave, from two memories that agree in known bytes.
use Rattle.std.specs.Prelude.{◌≡◌, ℕ, ◌+◌, ◌-◌, ◌/◌, ◌%◌, ◌<◌, Bool, true, false, ◌&&◌, ◌||◌, ◌==◌, nat_lt, nat_le, if◌then◌else◌, IsTrue, List, [], ◌∷◌, ◌++◌, refl}
use Rattle.std.proofs.Common.{sym, ap, ap₂, ◌∙◌, subst, arith, true≢false, inl}
use Rattle.a2_text.specs.Bytes.{is_among}
use Rattle.a2_page.specs.declared.Page.TheVariants.{One}
use Rattle.a2_page.specs.Cells.{address_of}
use Rattle.a2_page.specs.Grid.{Window, blank, with_byte}
use Rattle.a2_page.specs.Window.{IsWindow}
use Rattle.a2_bus.specs.Locations as at
use Rattle.a2_bus.specs.Memory.{Memory, with_ram}
use Rattle.a2_bus.proofs.Frame.{ram_byte-page1}
use Rattle.a2_bus.proofs.Viewing.{cell_written}
use Rattle.a2_services.specs.Bytes.{carriage_return, line_feed, backspace}
use Rattle.a2_services.specs.Fits.{CursorFits}
use Rattle.a2_services.specs.Put.{window_of, cursor_column, cursor_row, screen_column, with_cursor_column, with_page1, after_line_feed, after_return, after_backspace, after_character, after_put_unmasked, after_put, masked_by}
use Rattle.a2_services.specs.declared.rows.Service.TheVariants.{Cout1, Prbyte, Prhex, Vtab}
use Rattle.a2_services.specs.Services.{window_fits, cursor_fits, digit_byte, back, output, effect}
use Rattle.a2_services.specs.World.{World}
use Rattle.a2_services.proofs.Fitting.{row_at_column, window_kept, window_kept-page, put_fits}
use Rattle.a2_services.proofs.Returning.{fits_tells}
use Rattle.a2_footprint.specs.declared.Part.{Part}
use Rattle.a2_footprint.specs.declared.Part.TheVariants.{A as part_a}
use Rattle.a2_footprint.specs.Reads.{AgreeOn, Knows, with_bytes}
use Rattle.a2_footprint.specs.Services.{masked, scrolled_cells, wrapped_cells, moved_by, changed_by, put_moves, put_changes, window_cells, cursor_cell, cursor_bytes, base_bytes, output_bytes, bytes_used, service_reads, service_stores}
use Rattle.a2_footprint.specs.Uses.{Near}
use Rattle.a2_footprint.proofs.Agreeing.{among_or}
use Rattle.a2_footprint.proofs.Left.{StoresAlike, back_alike}
use Rattle.a2_footprint.proofs.Nearing.{knows-append}
use Rattle.a2_footprint.proofs.Orders.{among_self, knows_both, knows_stored, stored_same, stored_within}
use Rattle.a2_footprint.proofs.Placing.{SameCursor, same_cursor, same_fits, basing}
use Rattle.a2_footprint.proofs.Storing.{Stored, stored_none, stored_byte, stored_both, knows_more}
use Rattle.a2_footprint.proofs.Windows.{scrolling}

-- Stores

-- the cursor's bytes, which are known, and cells
stored_cursor : (known : ℕ → Bool) (some cells : List ℕ) (m n new_m new_n : Memory) → Knows known cursor_bytes
    → Knows (is_among some) cells → Knows (is_among (at.ch ∷ at.cv ∷ cells)) some
    → Stored known some m n new_m new_n → Stored known (at.ch ∷ at.cv ∷ cells) m n new_m new_n
stored_cursor known some cells m n new_m new_n k shown part h =
    stored_within known some (at.ch ∷ at.cv ∷ cells) m n new_m new_n
    (among_or (is_among some at.ch) (known at.ch) k.0, (among_or (is_among some at.cv) (known at.cv) k.1.0, knows_stored known some cells shown)) part h

-- equal bytes
stored_value : (known : ℕ → Bool) (m n : Memory) (a v w : ℕ) → AgreeOn known m n → v ≡ w
    → Stored known (a ∷ []) m n (with_ram m a v) (with_ram n a w)
stored_value known m n a v w h e =
    subst (λ x. Stored known (a ∷ []) m n (with_ram m a v) (with_ram n a x)) e (stored_byte known m n a v h)

-- a test with the same result in both, which decides the bytes that are moved and those that are stored
stored_if : (known : ℕ → Bool) (moves stores : Bool → List ℕ) (m n yes_m no_m yes_n no_n : Memory) (p q : Bool) → p ≡ q → Knows known (moves p)
    → (Knows known (moves true) → Stored known (stores true) m n yes_m yes_n)
    → (Knows known (moves false) → Stored known (stores false) m n no_m no_n)
    → Stored known (stores p) m n (if p then yes_m else no_m) (if q then yes_n else no_n)
stored_if known moves stores m n yes_m no_m yes_n no_n true true e k holds fails = holds k
stored_if known moves stores m n yes_m no_m yes_n no_n true false e k holds fails = absurd (true≢false e)
stored_if known moves stores m n yes_m no_m yes_n no_n false true e k holds fails = absurd (true≢false (sym e))
stored_if known moves stores m n yes_m no_m yes_n no_n false false e k holds fails = fails k

-- The byte that is printed, and the cells that it moves and changes

pub same_masked : (byte : ℕ) (known : ℕ → Bool) (m n : Memory) → AgreeOn known m n → IsTrue (known at.invflg) → masked byte m ≡ masked byte n
same_masked byte known m n h k =
    ap (λ mask. masked_by byte mask) (h.bytes at.invflg (omega arith) k)

same_scrolled : (m n : Memory) → window_of m ≡ window_of n → cursor_row m ≡ cursor_row n → scrolled_cells m ≡ scrolled_cells n
same_scrolled m n window row = λ i. let w : Window = window i in if nat_lt (row i + 1) w.bottom then [] else window_cells w

same_wrapped : (m n : Memory) → SameCursor m n → wrapped_cells m ≡ wrapped_cells n
same_wrapped m n c = λ i.
    let w : Window = c.window i in if nat_le w.width (c.column i + 1) then same_scrolled m n c.window c.row i else []

same_moved : (byte : ℕ) (m n : Memory) → SameCursor m n → moved_by byte m ≡ moved_by byte n
same_moved byte m n c = λ i.
    if byte == carriage_return || byte == line_feed then same_scrolled m n c.window c.row i
    else if byte == backspace || nat_le 0x80 byte && nat_lt byte blank then []
    else same_wrapped m n c i

same_changed : (byte : ℕ) (m n : Memory) → SameCursor m n → changed_by byte m ≡ changed_by byte n
same_changed byte m n c = λ i.
    if byte == carriage_return || byte == line_feed then same_scrolled m n c.window c.row i
    else if byte == backspace || nat_le 0x80 byte && nat_lt byte blank then []
    else address_of One (c.row i) (c.screen i) ∷ same_wrapped m n c i

module _ (known : ℕ → Bool) (m n : Memory) (h : AgreeOn known m n) (k : Knows known cursor_bytes) (mask : IsTrue (known at.invflg)) (byte : ℕ) where
  pub same_put_moves : put_moves byte m ≡ put_moves byte n
  same_put_moves =
      ap (λ b. moved_by b m) (same_masked byte known m n h mask) ∙ same_moved (masked byte n) m n (same_cursor known m n h k)

  pub same_put_changes : put_changes byte m ≡ put_changes byte n
  same_put_changes =
      ap (λ b. changed_by b m) (same_masked byte known m n h mask) ∙ same_changed (masked byte n) m n (same_cursor known m n h k)

-- a character in its cell, and the cursor after it
abbrev shown_in : ℕ → Memory → Memory
shown_in byte m = with_page1 (with_byte m.page1 (cursor_row m) (screen_column m) byte) m

abbrev moved_on : ℕ → Memory → Memory
moved_on byte m = with_cursor_column (cursor_column m + 1) (shown_in byte m)

window_on : (byte : ℕ) (m : Memory) → window_of (moved_on byte m) ≡ window_of m
window_on byte m = window_kept (shown_in byte m) at.ch (cursor_column m + 1) (omega arith) ∙ window_kept-page m _

row_on : (byte : ℕ) (m : Memory) → cursor_row (moved_on byte m) ≡ cursor_row m
row_on byte m = row_at_column (shown_in byte m) (cursor_column m + 1) ∙ ram_byte-page1 m _ at.cv (inl (omega arith))

-- a character is stored in the same cell of both
showing : (byte : ℕ) (known : ℕ → Bool) (m n : Memory) → AgreeOn known m n → SameCursor m n → CursorFits m
    → Stored known (cursor_cell m ∷ []) m n (shown_in byte m) (shown_in byte n)
showing byte known m n h c fit =
    let left : with_ram m (cursor_cell m) byte ≡ shown_in byte m = cell_written m (cursor_row m) (screen_column m) byte fit.line.row fit.column in
    let row : cursor_row n < 24 = subst (λ r. r < 24) c.row fit.line.row in
    let column : screen_column n < 40 = subst (λ r. r < 40) c.screen fit.column in
    let right : with_ram n (cursor_cell m) byte ≡ shown_in byte n =
    (λ i. with_ram n (address_of One (c.row i) (c.screen i)) byte) ∙ cell_written n (cursor_row n) (screen_column n) byte row column in
    subst (λ x. Stored known (cursor_cell m ∷ []) m n x (shown_in byte n)) left
    (subst (λ x. Stored known (cursor_cell m ∷ []) m n (with_ram m (cursor_cell m) byte) x) right (stored_byte known m n (cursor_cell m) byte h))

-- Operations that print a byte

stepping_back : (known : ℕ → Bool) (m n : Memory) → AgreeOn known m n → Knows known cursor_bytes
    → Stored known (at.ch ∷ at.cv ∷ []) m n (after_backspace m) (after_backspace n)
unfolding after_backspace
stepping_back known m n h k =
    let c : SameCursor m n = same_cursor known m n h k in
    let all : Knows (is_among (at.ch ∷ at.cv ∷ [])) (at.ch ∷ at.cv ∷ []) = among_self (at.ch ∷ at.cv ∷ []) in
    let wrapped : Stored known (at.ch ∷ []) m n (with_cursor_column ((window_of m).width - 1) m) (with_cursor_column ((window_of n).width - 1) n) =
    stored_value known m n at.ch _ _ h (ap (λ (w : Window). w.width - 1) c.window) in
    stored_if known (λ _. []) (λ _. at.ch ∷ at.cv ∷ []) m n _ _ _ _ _ _ (ap (λ column. nat_lt 0 column) c.column) tt
    (λ _. stored_cursor known (at.ch ∷ []) [] m n _ _ k tt (all.0, tt) (stored_value known m n at.ch _ _ h (ap (λ column. column - 1) c.column)))
    (λ _. stored_if known (λ _. []) (λ _. at.ch ∷ at.cv ∷ []) m n _ _ _ _ _ _ (λ i. let w : Window = c.window i in nat_lt w.top (c.row i)) tt
    (λ _. stored_both known (at.ch ∷ []) (at.cv ∷ []) m n _ _ _ _ wrapped (stored_value _ _ _ at.cv _ _ wrapped.agree (ap (λ row. row - 1) c.row)))
    (λ _. stored_cursor known (at.ch ∷ []) [] m n _ _ k tt (all.0, tt) wrapped))

line_feeding : (known : ℕ → Bool) (m n : Memory) → AgreeOn known m n → Knows known cursor_bytes → IsWindow (window_of m)
    → Knows known (scrolled_cells m) → Stored known (at.ch ∷ at.cv ∷ scrolled_cells m) m n (after_line_feed m) (after_line_feed n)
unfolding after_line_feed
line_feeding known m n h k is shown =
    let c : SameCursor m n = same_cursor known m n h k in
    let cells : List ℕ = window_cells (window_of m) in
    stored_if known (λ down. if down then [] else cells) (λ down. at.ch ∷ at.cv ∷ (if down then [] else cells)) m n _ _ _ _ _ _
    (λ i. let w : Window = c.window i in nat_lt (c.row i + 1) w.bottom) shown
    (λ _. stored_cursor known (at.cv ∷ []) [] m n _ _ k tt ((among_self (at.ch ∷ at.cv ∷ [])).1)
    (stored_value known m n at.cv _ _ h (ap (λ row. row + 1) c.row)))
    (λ moved. stored_cursor known cells cells m n _ _ k (among_self cells) (among_self (at.ch ∷ at.cv ∷ cells)).1.1
    (scrolling known m n h c.window is moved))

returning : (known : ℕ → Bool) (m n : Memory) → AgreeOn known m n → Knows known cursor_bytes → IsWindow (window_of m)
    → Knows known (scrolled_cells m) → Stored known (at.ch ∷ at.cv ∷ scrolled_cells m) m n (after_return m) (after_return n)
unfolding after_return
returning known m n h k is shown =
    let start_m : Memory = with_cursor_column 0 m in
    let start_n : Memory = with_cursor_column 0 n in
    let cells : List ℕ = scrolled_cells m in
    let window : window_of start_m ≡ window_of m = window_kept m at.ch 0 (omega arith) in
    let started : Stored known (at.ch ∷ []) m n start_m start_n = stored_byte known m n at.ch 0 h in
    let now : ℕ → Bool = with_bytes (at.ch ∷ []) known in
    let fed : Knows now cells → Stored now (at.ch ∷ at.cv ∷ cells) start_m start_n (after_line_feed start_m) (after_line_feed start_n) =
    subst (λ xs. Knows now xs → Stored now (at.ch ∷ at.cv ∷ xs) start_m start_n (after_line_feed start_m) (after_line_feed start_n))
    (same_scrolled start_m m window (row_at_column m 0))
    (line_feeding now start_m start_n started.agree (knows_more known (at.ch ∷ []) cursor_bytes k) (subst IsWindow (sym window) is)) in
    let all : Knows (is_among (at.ch ∷ at.cv ∷ cells)) (at.ch ∷ at.cv ∷ cells) = among_self (at.ch ∷ at.cv ∷ cells) in
    stored_same known (at.ch ∷ at.ch ∷ at.cv ∷ cells) (at.ch ∷ at.cv ∷ cells) m n _ _ (among_self (at.ch ∷ at.ch ∷ at.cv ∷ cells)).1 (all.0, all)
    (stored_both known (at.ch ∷ []) (at.ch ∷ at.cv ∷ cells) m n start_m start_n _ _ started (fed (knows_more known (at.ch ∷ []) cells shown)))

writing : (byte : ℕ) (known : ℕ → Bool) (m n : Memory) → AgreeOn known m n → Knows known cursor_bytes → CursorFits m
    → Knows known (wrapped_cells m)
    → Stored known (at.ch ∷ at.cv ∷ cursor_cell m ∷ wrapped_cells m) m n (after_character byte m) (after_character byte n)
unfolding after_character
writing byte known m n h k fit shown =
    stored_if known (λ last. if last then scrolled_cells m else []) (λ last. at.ch ∷ at.cv ∷ cell ∷ (if last then scrolled_cells m else [])) m n _ _ _ _ _ _
    (λ i. let w : Window = c.window i in nat_le w.width (c.column i + 1)) shown wrapped
    (λ _. stored_cursor known (cell ∷ at.ch ∷ []) (cell ∷ []) m n _ _ k ((among_self (cell ∷ at.ch ∷ [])).0, tt)
    ((among_self (at.ch ∷ at.cv ∷ cell ∷ [])).1.1.0, ((among_self (at.ch ∷ at.cv ∷ cell ∷ [])).0, tt)) moved)
  where
    cell : ℕ
    cell = cursor_cell m

    c : SameCursor m n
    c = same_cursor known m n h k

    now : ℕ → Bool
    now = with_bytes (cursor_cell m ∷ at.ch ∷ []) known

    moved : Stored known (cursor_cell m ∷ at.ch ∷ []) m n (moved_on byte m) (moved_on byte n)
    moved =
        let there : Stored known (cursor_cell m ∷ []) m n (shown_in byte m) (shown_in byte n) = showing byte known m n h c fit in
        stored_both known (cursor_cell m ∷ []) (at.ch ∷ []) m n (shown_in byte m) (shown_in byte n) (moved_on byte m) (moved_on byte n) there
        (stored_value (with_bytes (cursor_cell m ∷ []) known) (shown_in byte m) (shown_in byte n) at.ch _ _ there.agree (ap (λ column. column + 1) c.column))

    returned : Knows now (scrolled_cells m)
        → Stored now (at.ch ∷ at.cv ∷ scrolled_cells m) (moved_on byte m) (moved_on byte n) (after_return (moved_on byte m)) (after_return (moved_on byte n))
    returned =
        subst (λ xs. Knows now xs → Stored now (at.ch ∷ at.cv ∷ xs) (moved_on byte m) (moved_on byte n) (after_return (moved_on byte m)) (after_return (moved_on byte n)))
        (same_scrolled (moved_on byte m) m (window_on byte m) (row_on byte m))
        (returning now (moved_on byte m) (moved_on byte n) moved.agree (knows_more known (cursor_cell m ∷ at.ch ∷ []) cursor_bytes k)
        (subst IsWindow (sym (window_on byte m)) fit.line.window))

    wrapped : Knows known (scrolled_cells m)
        → Stored known (at.ch ∷ at.cv ∷ cursor_cell m ∷ scrolled_cells m) m n (after_return (moved_on byte m)) (after_return (moved_on byte n))
    wrapped shown =
        let cells : List ℕ = scrolled_cells m in
        let all : Knows (is_among (at.ch ∷ at.cv ∷ cell ∷ cells)) (at.ch ∷ at.cv ∷ cell ∷ cells) = among_self (at.ch ∷ at.cv ∷ cell ∷ cells) in
        let own : Knows (is_among (cell ∷ at.ch ∷ at.ch ∷ at.cv ∷ cells)) (cell ∷ at.ch ∷ at.ch ∷ at.cv ∷ cells) =
        among_self (cell ∷ at.ch ∷ at.ch ∷ at.cv ∷ cells) in
        stored_same known (cell ∷ at.ch ∷ at.ch ∷ at.cv ∷ cells) (at.ch ∷ at.cv ∷ cell ∷ cells) m n _ _
        (own.1.0, (own.1.1.1.0, (own.0, own.1.1.1.1))) (all.1.1.0, (all.0, (all.0, (all.1.0, all.1.1.1))))
        (stored_both known (cell ∷ at.ch ∷ []) (at.ch ∷ at.cv ∷ cells) m n (moved_on byte m) (moved_on byte n) _ _ moved
        (returned (knows_more known (cell ∷ at.ch ∷ []) cells shown)))

pub putting_unmasked : (byte : ℕ) (known : ℕ → Bool) (m n : Memory) → AgreeOn known m n → Knows known cursor_bytes → CursorFits m
    → Knows known (moved_by byte m)
    → Stored known (at.ch ∷ at.cv ∷ changed_by byte m) m n (after_put_unmasked byte m) (after_put_unmasked byte n)
unfolding after_put_unmasked
putting_unmasked byte known m n h k fit shown =
    go (byte == carriage_return) (byte == line_feed) (byte == backspace) (nat_le 0x80 byte && nat_lt byte blank) shown
  where
    go : (return feed back control : Bool)
        → Knows known (if return || feed then scrolled_cells m else if back || control then [] else wrapped_cells m)
        → Stored known (at.ch ∷ at.cv ∷ (if return || feed then scrolled_cells m else if back || control then [] else cursor_cell m ∷ wrapped_cells m)) m n
        (if return then after_return m else if feed then after_line_feed m else if back then after_backspace m else if control then m else after_character byte m)
        (if return then after_return n else if feed then after_line_feed n else if back then after_backspace n else if control then n else after_character byte n)
    go true _ _ _ shown = returning known m n h k fit.line.window shown
    go false true _ _ shown = line_feeding known m n h k fit.line.window shown
    go false false true _ _ = stepping_back known m n h k
    go false false false true _ = stored_cursor known [] [] m n m n k tt tt (stored_none known m n h)
    go false false false false shown = writing byte known m n h k fit shown

pub putting : (byte : ℕ) (known : ℕ → Bool) (m n : Memory) → AgreeOn known m n → Knows known cursor_bytes → IsTrue (known at.invflg)
    → CursorFits m → Knows known (put_moves byte m)
    → Stored known (at.ch ∷ at.cv ∷ put_changes byte m) m n (after_put byte m) (after_put byte n)
unfolding after_put
putting byte known m n h k mask fit shown =
    subst (λ b. Stored known (at.ch ∷ at.cv ∷ put_changes byte m) m n (after_put_unmasked (masked byte m) m) (after_put_unmasked b n))
    (same_masked byte known m n h mask) (putting_unmasked (masked byte m) known m n h k fit shown)

-- Services

-- after the cursor is moved, the base address is stored
pub outputting : (known : ℕ → Bool) (cells : List ℕ) (s t : World) (new_m new_n : Memory) → Knows known cursor_bytes
    → Stored known (at.ch ∷ at.cv ∷ cells) s.memory t.memory new_m new_n
    → Stored known (output_bytes ++ cells) s.memory t.memory (back (output new_m s)).memory (back (output new_n t)).memory
outputting known cells s t new_m new_n k put =
    let first : List ℕ = at.ch ∷ at.cv ∷ cells in
    let own : Knows (is_among (first ++ base_bytes)) first × Knows (is_among (first ++ base_bytes)) base_bytes =
    knows-append (is_among (first ++ base_bytes)) first base_bytes (among_self (first ++ base_bytes)) in
    let all : Knows (is_among (output_bytes ++ cells)) (output_bytes ++ cells) = among_self (output_bytes ++ cells) in
    let c : SameCursor new_m new_n =
    same_cursor (with_bytes first known) new_m new_n put.agree (knows_more known first cursor_bytes k) in
    back_alike known (output_bytes ++ cells) s t (output new_m s) (output new_n t)
    (stored_same known (first ++ base_bytes) (output_bytes ++ cells) s.memory t.memory _ _
    (own.0.0, (own.0.1.0, (own.1.0, (own.1.1.0, own.0.1.1))))
    (knows_both (is_among (output_bytes ++ cells)) first base_bytes (all.0, (all.1.0, all.1.1.1.1)) (all.1.1.0, (all.1.1.1.0, tt)))
    (stored_both known first base_bytes s.memory t.memory new_m new_n _ _ put
    (basing (with_bytes first known) new_m new_n put.agree c.window c.row)))

pub vtab_law : StoresAlike Vtab
unfolding service_reads service_stores effect
vtab_law parts known s t h fit looks reads =
    let c : SameCursor s.memory t.memory = same_cursor known s.memory t.memory h.memory reads.1.1 in (
      sym (same_fits s.memory t.memory c) ∙ fit,
      back_alike known base_bytes s t (output s.memory s) (output t.memory t) (basing known s.memory t.memory h.memory c.window c.row),
      refl,
    )

fits_too : (known : ℕ → Bool) (m n : Memory) (more : List ℕ) → AgreeOn known m n → Knows known (cursor_bytes ++ more)
    → window_fits m && cursor_fits m ≡ true → window_fits n && cursor_fits n ≡ true
fits_too known m n more h reads fit = sym (same_fits m n (same_cursor known m n h (knows-append known cursor_bytes more reads).0)) ∙ fit

-- two bytes, one after the other

abbrev both_put : ℕ → ℕ → Memory → Memory
both_put first second memory = after_put second (after_put first memory)

abbrev both_moves : ℕ → ℕ → Memory → List ℕ
both_moves first second memory = put_moves first memory ++ put_moves second (after_put first memory)

abbrev both_changes : ℕ → ℕ → Memory → List ℕ
both_changes first second memory = put_changes first memory ++ put_changes second (after_put first memory)

putting_both : (first second : ℕ) (known : ℕ → Bool) (m n : Memory) → AgreeOn known m n → Knows known cursor_bytes → IsTrue (known at.invflg)
    → CursorFits m → Knows known (both_moves first second m)
    → Stored known (at.ch ∷ at.cv ∷ both_changes first second m) m n (both_put first second m) (both_put first second n)
    × (both_changes first second m ≡ both_changes first second n)
putting_both first second known m n h k mask fit shown = (
  stored_same known (one ++ two) all m n _ _ (own.0.0, (own.0.1.0, knows_both (is_among (one ++ two)) a b own.0.1.1 own.1.1.1))
      (knows_both (is_among all) one two (whole.0, (whole.1.0, parts.0)) (whole.0, (whole.1.0, parts.1)))
      (stored_both known one two m n (after_put first m) (after_put first n) _ _ put
      (putting second now (after_put first m) (after_put first n) put.agree cursor_now mask_now (put_fits first m fit)
      (knows_more known one (put_moves second (after_put first m)) moves.1))),
  ap₂ (λ xs ys. xs ++ ys) (same_put_changes known m n h k mask first)
      (same_put_changes now (after_put first m) (after_put first n) put.agree cursor_now mask_now second),
)
  where
    a : List ℕ
    a = put_changes first m

    b : List ℕ
    b = put_changes second (after_put first m)

    one : List ℕ
    one = at.ch ∷ at.cv ∷ a

    two : List ℕ
    two = at.ch ∷ at.cv ∷ b

    all : List ℕ
    all = at.ch ∷ at.cv ∷ a ++ b

    own : Knows (is_among (one ++ two)) one × Knows (is_among (one ++ two)) two
    own = knows-append (is_among (one ++ two)) one two (among_self (one ++ two))

    whole : Knows (is_among all) all
    whole = among_self all

    parts : Knows (is_among all) a × Knows (is_among all) b
    parts = knows-append (is_among all) a b whole.1.1

    moves : Knows known (put_moves first m) × Knows known (put_moves second (after_put first m))
    moves = knows-append known (put_moves first m) (put_moves second (after_put first m)) shown

    put : Stored known one m n (after_put first m) (after_put first n)
    put = putting first known m n h k mask fit moves.0

    now : ℕ → Bool
    now = with_bytes one known

    cursor_now : Knows now cursor_bytes
    cursor_now = knows_more known one cursor_bytes k

    mask_now : IsTrue (now at.invflg)
    mask_now = among_or (is_among one at.invflg) (known at.invflg) mask

-- Output that depends on A

-- the results for one value of A and for another
record IsOutput (put : ℕ → Memory → Memory) (changes : ℕ → Memory → List ℕ) (known : ℕ → Bool) (s t : World) (a b : ℕ) : Type 0 where
  stored : Stored known (output_bytes ++ changes a s.memory) s.memory t.memory
      (back (output (put a s.memory) s)).memory (back (output (put b t.memory) t)).memory
  stores : output_bytes ++ changes a s.memory ≡ output_bytes ++ changes b t.memory

is_output : (put : ℕ → Memory → Memory) (changes : ℕ → Memory → List ℕ) (known : ℕ → Bool) (s t : World) (a b : ℕ) → a ≡ b → Knows known cursor_bytes
    → Stored known (at.ch ∷ at.cv ∷ changes a s.memory) s.memory t.memory (put a s.memory) (put a t.memory)
    → changes a s.memory ≡ changes a t.memory → IsOutput put changes known s t a b
is_output put changes known s t a b same k is_put is_changed = subst (λ c. IsOutput put changes known s t a c) same (record {
  stored = outputting known (changes a s.memory) s t (put a s.memory) (put a t.memory) k is_put;
  stores = ap (λ cells. output_bytes ++ cells) is_changed;
})

-- one byte
one_output : (byte_of : ℕ → ℕ) (parts : Part → Bool) (known : ℕ → Bool) (s t : World) → Near parts (AgreeOn known) s t
    → window_fits s.memory && cursor_fits s.memory ≡ true → IsTrue (parts part_a)
    → Knows known (cursor_bytes ++ at.invflg ∷ put_moves (byte_of s.registers.a) s.memory)
    → IsOutput (λ a. after_put (byte_of a)) (λ a. put_changes (byte_of a)) known s t s.registers.a t.registers.a
one_output byte_of parts known s t h fit is_a reads =
    let byte = byte_of s.registers.a in
    let k : Knows known cursor_bytes × Knows known (at.invflg ∷ put_moves byte s.memory) =
    knows-append known cursor_bytes (at.invflg ∷ put_moves byte s.memory) reads in
    is_output (λ a. after_put (byte_of a)) (λ a. put_changes (byte_of a)) known s t s.registers.a t.registers.a (h.registers.parts part_a is_a) k.0
    (putting byte known s.memory t.memory h.memory k.0 k.1.0 (fits_tells s.memory fit) k.1.1)
    (same_put_changes known s.memory t.memory h.memory k.0 k.1.0 byte)

pub cout1_law : StoresAlike Cout1
unfolding service_reads service_stores effect
cout1_law parts known s t h fit looks reads =
    let done : IsOutput after_put put_changes known s t s.registers.a t.registers.a = one_output (λ a. a) parts known s t h fit looks.0 reads.1.1 in
    (fits_too known s.memory t.memory (bytes_used Cout1 s.registers s.memory) h.memory reads.1.1 fit, done.stored, done.stores)

abbrev low_digit : ℕ → ℕ
low_digit a = digit_byte (a % 16)

abbrev high_digit : ℕ → ℕ
high_digit a = digit_byte (a / 16)

pub prhex_law : StoresAlike Prhex
unfolding service_reads service_stores effect
prhex_law parts known s t h fit looks reads =
    let done : IsOutput (λ a. after_put (low_digit a)) (λ a. put_changes (low_digit a)) known s t s.registers.a t.registers.a =
    one_output low_digit parts known s t h fit looks.0 reads.1.1 in
    (fits_too known s.memory t.memory (bytes_used Prhex s.registers s.memory) h.memory reads.1.1 fit, done.stored, done.stores)

pub prbyte_law : StoresAlike Prbyte
unfolding service_reads service_stores effect
prbyte_law parts known s t h fit looks reads =
    let high = high_digit s.registers.a in
    let low = low_digit s.registers.a in
    let k : Knows known cursor_bytes × Knows known (at.invflg ∷ both_moves high low s.memory) =
    knows-append known cursor_bytes (at.invflg ∷ both_moves high low s.memory) reads.1.1 in
    let both : Stored known (at.ch ∷ at.cv ∷ both_changes high low s.memory) s.memory t.memory (both_put high low s.memory) (both_put high low t.memory)
    × (both_changes high low s.memory ≡ both_changes high low t.memory) =
    putting_both high low known s.memory t.memory h.memory k.0 k.1.0 (fits_tells s.memory fit) k.1.1 in
    let done : IsOutput (λ a. both_put (high_digit a) (low_digit a)) (λ a. both_changes (high_digit a) (low_digit a)) known s t s.registers.a t.registers.a =
    is_output (λ a. both_put (high_digit a) (low_digit a)) (λ a. both_changes (high_digit a) (low_digit a)) known s t s.registers.a t.registers.a
    (h.registers.parts part_a looks.0) k.0 both.0 both.1 in
    (fits_too known s.memory t.memory (bytes_used Prbyte s.registers s.memory) h.memory reads.1.1 fit, done.stored, done.stores)

-- The output of a run has fewer than 4,096 bytes.
use Rattle.std.specs.Prelude.{codes, Some, slice_index}
use Rattle.std.specs.Fmt.{decimal}
use Rattle.std.proofs.Common.{◌≡◌, ℕ, zero, suc, ◌*◌, ◌^◌, ◌<◌, ◌≤◌, Bool, true, false, if◌then◌else◌, List, [], ◌∷◌, ◌++◌, length, map, take, drop, ap, subst, arith, lit≤, lit<, length-append, length-take, length-drop}
use Rattle.std.proofs.lemmas.List.{length-map}
use Rattle.std.proofs.lemmas.Fmt.{length-decimal-le}
use Rattle.a2_page.specs.Cells.{numbers_from, address_of}
use Rattle.a2_page.specs.declared.Page.TheVariants.{One, Two}
use Rattle.a2_page.specs.Grid.{Grid, grid_of}
use Rattle.a2_page.specs.declared.Switches.{Switches}
use Rattle.a2_page.specs.Text.{row_line, lines_of, blocks_of, text_lines, block_lines, glyph, attribute_mark, block_digit}
use Rattle.a2_page.specs.Picture as page
use Rattle.a2_page.proofs.Parts.{mapped-length}
use Rattle.a2_bus.specs.BusState.{BusState}
use Rattle.a2_bus.specs.View.{memory_of}
use Rattle.a2_effect.specs.Registers.{Registers}
use Rattle.a2_machine.specs.declared.causes.Cause.{Cause}
use Rattle.a2_machine.specs.declared.causes.Cause.TheVariants.{Returned}
use Rattle.a2_machine.specs.Output.{line_of_digits, register_line, cause_line}
use Rattle.a2_stream.specs.Stream.{Taker, Breaks}
use Rattle.a2_run.specs.Meaning.{picture_of, attributes_of, screen}

-- no row is wider than a screen
abbrev pub AreNarrow : Grid → Type 0
AreNarrow [] = Unit {0}
AreNarrow (row ∷ rows) = (length row ≤ 40) × AreNarrow rows

narrow-map : (f : ℕ → List ℕ) → ((n : ℕ) → length (f n) ≡ 40) → (ns : List ℕ) → AreNarrow (map f ns)
narrow-map f h [] = tt
narrow-map f h (n ∷ ns) = (omega (arith, h n), narrow-map f h ns)

narrow-take : (n : ℕ) (rows : Grid) → AreNarrow rows → AreNarrow (take n rows)
narrow-take zero rows h = tt
narrow-take (suc n) [] h = tt
narrow-take (suc n) (row ∷ rows) h = (h.0, narrow-take n rows h.1)

narrow-drop : (n : ℕ) (rows : Grid) → AreNarrow rows → AreNarrow (drop n rows)
narrow-drop zero rows h = h
narrow-drop (suc n) [] h = tt
narrow-drop (suc n) (row ∷ rows) h = narrow-drop n rows h.1

narrow-blocks : (rows : Grid) → AreNarrow rows → AreNarrow (blocks_of rows)
narrow-blocks [] h = tt
narrow-blocks (row ∷ rows) h = (omega (arith, length-map {A = ℕ} {B = ℕ} row, h.0), (omega (arith, length-map {A = ℕ} {B = ℕ} row, h.0), narrow-blocks rows h.1))

length-blocks : (rows : Grid) → length (blocks_of rows) ≡ 2 * length rows
length-blocks [] = omega arith
length-blocks (row ∷ rows) = omega (arith, length-blocks rows)

length-lines : (character : ℕ → ℕ) (rows : Grid) → AreNarrow rows → length (lines_of character rows) ≤ 41 * length rows
length-lines character [] h = omega arith
length-lines character (row ∷ rows) h =
    omega (arith, length-append (row_line character row) (lines_of character rows), length-append (map character row) (10 ∷ []), length-map row character, h.0, length-lines character rows h.1)

-- Two pages of 24 rows

record IsPage (rows : Grid) : Type 0 where
  narrow : AreNarrow rows
  height : length rows ≡ 24

is-page : (byte_at : ℕ → ℕ → ℕ) → IsPage (grid_of byte_at)
is-page byte_at = record {
  narrow = narrow-map (λ row. map (λ column. byte_at row column) (numbers_from 0 40)) (λ row. mapped-length (byte_at row) 40) (numbers_from 0 24);
  height = mapped-length (λ row. map (λ column. byte_at row column) (numbers_from 0 40)) 24;
}

shown-page : (page2 : Bool) (first second : Grid) → IsPage first → IsPage second → IsPage (if page2 then second else first)
shown-page true first second f s = s
shown-page false first second f s = f

text-few : (character : ℕ → ℕ) (n : ℕ) (rows : Grid) → IsPage rows → length (lines_of character (drop n rows)) ≤ 984
text-few character n rows h =
    omega (arith, length-lines character (drop n rows) (narrow-drop n rows h.narrow), length-drop n rows, h.height)

graphics-few : (hires : Bool) (n : ℕ) (rows : Grid) → IsPage rows → length (if hires then codes "HI-RES NOT SHOWN\n" else block_lines (take n rows)) ≤ 1968
graphics-few true n rows h = lit≤ tt
graphics-few false n rows h =
    omega (arith, length-lines block_digit (blocks_of (take n rows)) (narrow-blocks (take n rows) (narrow-take n rows h.narrow)), length-blocks (take n rows), length-take n rows, h.height)

if-few : (is : Bool) (bytes : List ℕ) (most : ℕ) → length bytes ≤ most → length (if is then [] else bytes) ≤ most
if-few true bytes most h = omega arith
if-few false bytes most h = h

if-asked : (is : Bool) (bytes : List ℕ) (most : ℕ) → length bytes ≤ most → length (if is then bytes else []) ≤ most
if-asked true bytes most h = h
if-asked false bytes most h = omega arith

picture-few : (switches : Switches) (page1 page2 : Grid) → IsPage page1 → IsPage page2 → length (page.picture switches page1 page2) ≤ 2952
picture-few switches page1 page2 f s =
    let rows = page.shown_page switches page1 page2 in
    let is : IsPage rows = shown-page switches.page2 page1 page2 f s in
    let above = if switches.text then [] else page.graphics_lines switches (take (page.first_text_row switches) rows) in
    let below = text_lines (drop (page.first_text_row switches) rows) in
    omega (
      arith,
      length-append above below,
      if-few switches.text (page.graphics_lines switches (take (page.first_text_row switches) rows)) 1968 (graphics-few switches.hires (page.first_text_row switches) rows is),
      text-few glyph (page.first_text_row switches) rows is,
    )

screen-few : (attr : Bool) (bus : BusState) → length (screen attr (memory_of bus)) ≤ 3936
unfolding memory_of picture_of attributes_of
screen-few attr bus =
    let memory = memory_of bus in
    let switches = memory.devices.switches in
    let first : IsPage memory.page1 = is-page (λ row column. slice_index bus.bytes (address_of One row column)) in
    let second : IsPage memory.page2 = is-page (λ row column. slice_index bus.bytes (address_of Two row column)) in
    omega (
      arith,
      length-append (page.picture switches memory.page1 memory.page2) (if attr then page.attribute_rows switches memory.page1 memory.page2 else []),
      picture-few switches memory.page1 memory.page2 first second,
      if-asked attr (page.attribute_rows switches memory.page1 memory.page2) 984
          (text-few attribute_mark (page.first_text_row switches) (page.shown_page switches memory.page1 memory.page2) (shown-page switches.page2 memory.page1 memory.page2 first second)),
    )

-- The register line and the cause line

digits-few : (a x y p s pc steps cycles : List ℕ) → length a ≡ 2 → length x ≡ 2 → length y ≡ 2 → length p ≡ 2 → length s ≡ 2 → length pc ≡ 4 → length steps ≤ 20 → length cycles ≤ 20
    → length (line_of_digits a x y p s pc steps cycles) ≤ 90
unfolding line_of_digits
digits-few a x y p s pc steps cycles ea ex ey ep es epc esteps ecycles = omega (arith, length-append {A = ℕ})

registers-few : (registers : Registers) (steps cycles : ℕ) → steps < 2 ^ 64 → cycles < 2 ^ 64 → length (register_line registers steps cycles) ≤ 90
registers-few registers steps cycles s c =
    digits-few _ _ _ _ _ _ (decimal steps) (decimal cycles) (omega arith) (omega arith) (omega arith) (omega arith) (omega arith) (omega arith)
    (length-decimal-le 20 steps (lit< tt) (omega arith) s) (length-decimal-le 20 cycles (lit< tt) (omega arith) c)

cause-few : (cause : Cause) → length (cause_line cause) ≤ 20
cause-few Returned = lit≤ tt
cause-few _ = lit≤ tt

-- screen, register line and cause line together
pub output-few : (attr : Bool) (bus : BusState) (registers : Registers) (steps cycles : ℕ) (cause : Cause) → steps < 2 ^ 64 → cycles < 2 ^ 64
    → length (screen attr (memory_of bus) ++ (register_line registers steps cycles ++ cause_line cause)) < 4096
output-few attr bus registers steps cycles cause s c =
    omega (
      arith,
      length-append (screen attr (memory_of bus)) (register_line registers steps cycles ++ cause_line cause),
      length-append (register_line registers steps cycles) (cause_line cause),
      screen-few attr bus,
      registers-few registers steps cycles s c,
      cause-few cause,
    )

-- A text that has room is written whole
pub never-broke : (old : Taker) (items : List ℕ) (failed : ℕ) (text : List ℕ) → old ≡ record { bytes = Some []; failures = 0 } → Breaks old (record { bytes = Some items; failures = failed }) text
    → (0 < failed → 4096 ≤ length items) → length text < 4096 → ⊥
never-broke old items failed text is breaks full few = from (subst (λ o. Breaks o (record { bytes = Some items; failures = failed }) text) is breaks)
  where
    from : Breaks (record { bytes = Some []; failures = 0 }) (record { bytes = Some items; failures = failed }) text → ⊥
    from b =
        let took : items ≡ take b.sent text = b.bytes in
        omega (arith, full (omega (arith, b.failures)), ap length took, length-take b.sent text, few)

-- Lo-res blocks plotted in two memories that agree in COLOR and in the cells of the blocks, and the services that plot
-- them.
use Rattle.std.specs.Prelude.{◌≡◌, ℕ, zero, suc, ◌+◌, ◌-◌, ◌*◌, ◌/◌, ◌%◌, ◌<◌, ◌≤◌, Bool, true, ◌&&◌, nat_lt, List, [], ◌∷◌, map, fold, refl}
use Rattle.std.proofs.Common.{sym, ap, ap₂, ◌∙◌, subst₂, arith}
use Rattle.std.proofs.lemmas.Bool.Decides.{nat_tests}
use Rattle.a2_page.specs.Cells.{numbers_from}
use Rattle.a2_page.specs.Grid.{byte_in}
use Rattle.a2_page.specs.Text.{block, with_block, blocks_of}
use Rattle.a2_page.proofs.Finding.{and-left, and-right}
use Rattle.a2_bus.specs.Locations as at
use Rattle.a2_bus.specs.Memory.{Memory, ram_byte, with_ram, ram_end}
use Rattle.a2_bus.proofs.Viewing.{cell_seen, cell_written}
use Rattle.a2_effect.specs.Registers.{Registers}
use Rattle.a2_services.specs.declared.rows.Service.TheVariants.{Setcol, Plot, Hline, Vline, Scrn}
use Rattle.a2_services.specs.Blocks.{half_of, colour_of, painted, painted_across, painted_down, numbers_from_to}
use Rattle.a2_services.specs.Services.{fits, block_fits, effect, with_a}
use Rattle.a2_services.specs.World.{World}
use Rattle.a2_services.proofs.Counting.{returned_devices}
use Rattle.a2_services.proofs.Painting.{paint_made, block_shown}
use Rattle.a2_footprint.specs.declared.Part.{Part}
use Rattle.a2_footprint.specs.declared.Part.TheVariants.{A as part_a, Y as part_y}
use Rattle.a2_footprint.specs.Reads.{AgreeOn, Knows, with_bytes}
use Rattle.a2_footprint.specs.Services.{block_cell, blocks_across, blocks_down, service_needs, service_reads, service_stores}
use Rattle.a2_footprint.specs.Parts.{MatchAt}
use Rattle.a2_footprint.specs.Uses.{Near}
use Rattle.a2_footprint.proofs.Storing.{Stored, stored_none, stored_byte, stored_both, knows_more}
use Rattle.a2_footprint.proofs.Left.{StoresAlike, left_alike}

-- One block

-- the byte in its cell after that
abbrev pub painted_byte : ℕ → ℕ → Memory → ℕ
painted_byte row column m = with_block (ram_byte m (block_cell row column)) (half_of row) (colour_of row m)

pub painted_is : (row column : ℕ) (m : Memory) → row < 48 → column < 40
    → painted row column m ≡ with_ram m (block_cell row column) (painted_byte row column m)
painted_is row column m r c =
    let half : row / 2 < 24 = omega (arith, r) in
    sym (cell_written m (row / 2) column (painted_byte row column m) half c
    ∙ paint_made m row column (ram_byte m at.color) (colour_of row m) (ram_byte m (block_cell row column)) (painted_byte row column m) (half_of row)
    refl refl refl (cell_seen m (row / 2) column half c) refl)

cell_low : (row column : ℕ) → row < 48 → column < 40 → block_cell row column < ram_end
cell_low row column r c = omega (arith, r, c)

color_low : at.color < ram_end
color_low = omega arith

pub painting_one : (known : ℕ → Bool) (m n : Memory) (row column : ℕ) → AgreeOn known m n → row < 48 → column < 40
    → Knows known (at.color ∷ block_cell row column ∷ [])
    → Stored known (block_cell row column ∷ []) m n (painted row column m) (painted row column n)
painting_one known m n row column h r c knows =
    let cell : ram_byte m (block_cell row column) ≡ ram_byte n (block_cell row column) =
    h.bytes (block_cell row column) (cell_low row column r c) knows.1.0 in
    let color : ram_byte m at.color ≡ ram_byte n at.color = h.bytes at.color color_low knows.0 in
    let byte : painted_byte row column m ≡ painted_byte row column n = λ i. with_block (cell i) (half_of row) (block (color i) (half_of row)) in
    let P : Memory → Memory → Type 0 = λ x y. Stored known (block_cell row column ∷ []) m n x y in
    subst₂ P (sym (painted_is row column m r c))
    (ap (λ v. with_ram n (block_cell row column) v) byte ∙ sym (painted_is row column n r c))
    (stored_byte known m n (block_cell row column) (painted_byte row column m) h)

-- Some blocks of a row, and some of a column

abbrev pub AreBelow : ℕ → List ℕ → Type 0
AreBelow limit [] = Unit {0}
AreBelow limit (k ∷ ks) = (k < limit) × AreBelow limit ks

numbers_below : (limit first count : ℕ) → first + count ≤ limit → AreBelow limit (numbers_from first count)
numbers_below limit first zero h = tt
numbers_below limit first (suc count) h = (omega (arith, h), numbers_below limit (suc first) count (omega (arith, h)))

span_below : (limit first last : ℕ) → first < limit → last < limit → AreBelow limit (numbers_from_to first last)
span_below limit first last f l = numbers_below limit first (last - first + 1) (omega (arith, f, l))

-- one step for each number, which plots a block
module _ (step : ℕ → Memory → Memory) (cell : ℕ → ℕ) (limit : ℕ)
    (one : (known : ℕ → Bool) (m n : Memory) (k : ℕ) → AgreeOn known m n → k < limit → Knows known (at.color ∷ cell k ∷ [])
    → Stored known (cell k ∷ []) m n (step k m) (step k n)) where
  painting_steps : (known : ℕ → Bool) (m n : Memory) (ks : List ℕ) → AgreeOn known m n → AreBelow limit ks
      → Knows known (at.color ∷ map cell ks)
      → Stored known (map cell ks) m n (fold (λ x k. step k x) m ks) (fold (λ x k. step k x) n ks)
  painting_steps known m n [] h below knows = stored_none known m n h
  painting_steps known m n (k ∷ ks) h below knows =
      let first : Stored known (cell k ∷ []) m n (step k m) (step k n) = one known m n k h below.0 (knows.0, (knows.1.0, tt)) in
      stored_both known (cell k ∷ []) (map cell ks) m n (step k m) (step k n) _ _ first
      (painting_steps (with_bytes (cell k ∷ []) known) (step k m) (step k n) ks first.agree below.1
      (knows_more known (cell k ∷ []) (at.color ∷ map cell ks) (knows.0, knows.1.1)))

pub painting_across : (known : ℕ → Bool) (m n : Memory) (row : ℕ) (columns : List ℕ) → AgreeOn known m n → row < 48 → AreBelow 40 columns
    → Knows known (at.color ∷ map (λ column. block_cell row column) columns)
    → Stored known (map (λ column. block_cell row column) columns) m n (painted_across row columns m) (painted_across row columns n)
painting_across known m n row columns h r below knows =
    painting_steps (λ column m. painted row column m) (λ column. block_cell row column) 40
    (λ known m n column h c knows. painting_one known m n row column h r c knows) known m n columns h below knows

pub painting_down : (known : ℕ → Bool) (m n : Memory) (rows : List ℕ) (column : ℕ) → AgreeOn known m n → AreBelow 48 rows → column < 40
    → Knows known (at.color ∷ map (λ row. block_cell row column) rows)
    → Stored known (map (λ row. block_cell row column) rows) m n (painted_down rows column m) (painted_down rows column n)
painting_down known m n rows column h below c knows =
    painting_steps (λ row m. painted row column m) (λ row. block_cell row column) 48
    (λ known m n row h r knows. painting_one known m n row column h r c knows) known m n rows h below knows

-- The services

-- the same block of the screen in two worlds
record SameBlock (r q : Registers) : Type 0 where
  a : r.a ≡ q.a
  y : r.y ≡ q.y
  row : r.a < 48
  column : r.y < 40

same_block : (parts : Part → Bool) (r q : Registers) → MatchAt parts r q → Knows parts (part_a ∷ part_y ∷ []) → block_fits r ≡ true
    → SameBlock r q
same_block parts r q h looks fit = record {
  a = h.parts part_a looks.0;
  y = h.parts part_y looks.1.0;
  row = grind (arith, nat_tests, fit);
  column = grind (arith, nat_tests, fit);
}

same_fit : (r q : Registers) → SameBlock r q → block_fits r ≡ block_fits q
same_fit r q same = ap₂ (λ a y. nat_lt a 48 && nat_lt y 40) same.a same.y

below_tells : (n limit : ℕ) → nat_lt n limit ≡ true → n < limit
below_tells n limit h = grind (arith, nat_tests, h)

pub setcol_law : StoresAlike Setcol
unfolding effect service_stores
setcol_law parts known s t h fit looks reads =
    let a : s.registers.a ≡ t.registers.a = h.registers.parts part_a looks.0 in (
      refl,
      left_alike known (at.color ∷ []) s t _ _ _ (stored_byte known s.memory t.memory at.color (17 * (s.registers.a % 16)) h.memory)
          (ap (λ k. with_ram t.memory at.color (17 * (k % 16))) a),
      refl,
    )

pub plot_law : StoresAlike Plot
unfolding effect service_reads service_stores
plot_law parts known s t h fit looks reads =
    let same : SameBlock s.registers t.registers = same_block parts s.registers t.registers h.registers looks fit in (
      sym (same_fit s.registers t.registers same) ∙ fit,
      left_alike known (block_cell s.registers.a s.registers.y ∷ []) s t _ _ _
          (painting_one known s.memory t.memory s.registers.a s.registers.y h.memory same.row same.column reads.1.1)
          (ap₂ (λ a y. painted a y t.memory) same.a same.y),
      ap₂ (λ a y. block_cell a y ∷ []) same.a same.y,
    )

pub hline_law : StoresAlike Hline
unfolding effect service_reads service_stores
hline_law parts known s t h fit looks reads =
    let last = ram_byte s.memory at.h2 in
    let end : last ≡ ram_byte t.memory at.h2 = h.memory.bytes at.h2 (omega arith) reads.1.1.0 in
    let same : SameBlock s.registers t.registers =
    same_block parts s.registers t.registers h.registers looks (and-left (block_fits s.registers) (nat_lt last 40) fit) in
    let below : last < 40 = below_tells last 40 (and-right (block_fits s.registers) (nat_lt last 40) fit) in (
      sym (ap₂ (λ block last. block && nat_lt last 40) (same_fit s.registers t.registers same) end) ∙ fit,
      left_alike known (blocks_across s.registers s.memory) s t _ _ _
          (painting_across known s.memory t.memory s.registers.a (numbers_from_to s.registers.y last) h.memory same.row
          (span_below 40 s.registers.y last same.column below) reads.1.1.1)
          (λ i. painted_across (same.a i) (numbers_from_to (same.y i) (end i)) t.memory),
      (λ i. map (λ column. block_cell (same.a i) column) (numbers_from_to (same.y i) (end i))),
    )

pub vline_law : StoresAlike Vline
unfolding effect service_reads service_stores
vline_law parts known s t h fit looks reads =
    let last = ram_byte s.memory at.v2 in
    let end : last ≡ ram_byte t.memory at.v2 = h.memory.bytes at.v2 (omega arith) reads.1.1.0 in
    let same : SameBlock s.registers t.registers =
    same_block parts s.registers t.registers h.registers looks (and-left (block_fits s.registers) (nat_lt last 48) fit) in
    let below : last < 48 = below_tells last 48 (and-right (block_fits s.registers) (nat_lt last 48) fit) in (
      sym (ap₂ (λ block last. block && nat_lt last 48) (same_fit s.registers t.registers same) end) ∙ fit,
      left_alike known (blocks_down s.registers s.memory) s t _ _ _
          (painting_down known s.memory t.memory (numbers_from_to s.registers.a last) s.registers.y h.memory
          (span_below 48 s.registers.a last same.row below) same.column reads.1.1.1)
          (λ i. painted_down (numbers_from_to (same.a i) (end i)) (same.y i) t.memory),
      (λ i. map (λ row. block_cell row (same.y i)) (numbers_from_to (same.a i) (end i))),
    )

-- SCRN stores nothing, and sets A to the colour of the block

pub scrn_law : StoresAlike Scrn
unfolding effect service_stores
scrn_law parts known s t h fit looks reads =
    let same : SameBlock s.registers t.registers = same_block parts s.registers t.registers h.registers looks fit in
    let P : Memory → Memory → Type 0 = λ m n. Stored known [] s.memory t.memory m n in (
      sym (same_fit s.registers t.registers same) ∙ fit,
      subst₂ P (sym (returned_devices (with_a (byte_in (blocks_of s.memory.page1) s.registers.a s.registers.y) s)))
          (sym (returned_devices (with_a (byte_in (blocks_of t.memory.page1) t.registers.a t.registers.y) t)))
          (stored_none known s.memory t.memory h.memory),
      refl,
    )

colour_seen : (row column : ℕ) (m : Memory) → row < 48 → column < 40
    → byte_in (blocks_of m.page1) row column ≡ block (ram_byte m (block_cell row column)) (half_of row)
colour_seen row column m r c =
    let half : row / 2 < 24 = omega (arith, r) in
    block_shown row column m.page1 ∙ ap (λ byte. block byte (half_of row)) (sym (cell_seen m (row / 2) column half c))

same_colour : (known : ℕ → Bool) (m n : Memory) (row column : ℕ) → AgreeOn known m n → row < 48 → column < 40
    → Knows known (block_cell row column ∷ [])
    → byte_in (blocks_of m.page1) row column ≡ byte_in (blocks_of n.page1) row column
same_colour known m n row column h r c knows =
    colour_seen row column m r c
    ∙ ap (λ byte. block byte (half_of row)) (h.bytes (block_cell row column) (cell_low row column r c) knows.0)
    ∙ sym (colour_seen row column n r c)

-- the colour that it returns is the same in both
pub scrn_colour : (parts : Part → Bool) (known : ℕ → Bool) (s t : World) → Near parts (AgreeOn known) s t
    → fits Scrn s.registers s.memory ≡ true → Knows parts (service_needs Scrn) → Knows known (service_reads Scrn s)
    → byte_in (blocks_of s.memory.page1) s.registers.a s.registers.y ≡ byte_in (blocks_of t.memory.page1) t.registers.a t.registers.y
unfolding service_reads
scrn_colour parts known s t h fit looks reads =
    let same : SameBlock s.registers t.registers = same_block parts s.registers t.registers h.registers looks fit in
    same_colour known s.memory t.memory s.registers.a s.registers.y h.memory same.row same.column reads.1.1
    ∙ ap₂ (λ a y. byte_in (blocks_of t.memory.page1) a y) same.a same.y

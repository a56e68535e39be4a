-- The steps of loops that write cells of page 1.
use Rattle.std.specs.Prelude.{◌≡◌, ◌⊎◌, ℕ, zero, suc, ◌+◌, ◌<◌, ◌≤◌, List, [], ◌∷◌, ◌++◌, length, slice_index, slice_index_or, slice_range, take, replicate, refl}
use Rattle.std.proofs.Common.{sym, ap, ◌∙◌, subst, arith, inl, inr, get_or}
use Rattle.std.proofs.lemmas.List.{length-replicate, get_or-replicate, get_or_past, take_more, take_all, length-take-le, ext_get_or}
use Rattle.a2_page.specs.Grid.{Grid, IsGrid, Window, with_byte, with_row_part, with_part, blank_part, scrolled, cleared, blank}
use Rattle.a2_page.specs.Window.{IsWindow}
use Rattle.a2_page.proofs.Parts.{spliced-none, spliced-whole, spliced-more, spliced-length, with_row_part-more, with_row_part-none, range-at, range_long, IsDone, done_first, done_more, done_all, scrolled-in, scrolled-last, scrolled-out, scrolled-height, cleared-in, cleared-out, cleared-height}
use Rattle.a2_page.specs.declared.Page.TheVariants.{One}
use Rattle.a2_page.specs.Cells.{address_of}
use Rattle.a2_bus.specs.BusState.{BusState}
use Rattle.a2_bus.specs.Memory.{Memory, with_ram, ram_end}
use Rattle.a2_bus.specs.View.{memory_of}
use Rattle.a2_bus.proofs.Viewing.{memory_of-agrees, store_seen, cell_written, page1_is_grid}
use Rattle.a2_services.specs.Put.{with_page1}
use Rattle.a2_services.specs.Blocks.{black}

-- bytes written one after another in a row
part_more : (m n k : Memory) (row left : ℕ) (part : List ℕ) (c byte : ℕ) → IsGrid m.page1 → row < 24 → left + length part ≡ c → c < 40
    → n ≡ with_page1 (with_row_part m.page1 row left part) m
    → k ≡ with_page1 (with_byte n.page1 row c byte) n
    → k ≡ with_page1 (with_row_part m.page1 row left (part ++ byte ∷ [])) m
part_more m n k row left part c byte h row_ok e lt is step = grind (arith, with_row_part-more)

-- the board's bytes with some replaced from an address on
abbrev laid : BusState → ℕ → List ℕ → BusState
laid bus address part = record bus { bytes = with_part bus.bytes address part }

-- these are the bytes of a part of a row, if they lie in it
pub row_laid : (bus : BusState) (row left : ℕ) (part : List ℕ) → length bus.bytes ≡ ram_end → row < 24 → left + length part ≤ 40
    → memory_of (laid bus (address_of One row left) part) ≡ with_page1 (with_row_part (memory_of bus).page1 row left part) (memory_of bus)
row_laid bus row left part size row_ok right =
    ap (λ ys. memory_of (laid bus at ys)) (sym (take_all (length part) part (omega arith)))
    ∙ go (length part) (omega arith)
    ∙ ap (λ ys. with_page1 (with_row_part m.page1 row left ys) m) (take_all (length part) part (omega arith))
  where
    m : Memory
    m = memory_of bus

    at : ℕ
    at = address_of One row left

    low : at + length part ≤ ram_end
    low = omega (arith, row_ok, right)

    go : (k : ℕ) → k ≤ length part → memory_of (laid bus at (take k part)) ≡ with_page1 (with_row_part m.page1 row left (take k part)) m
    go zero h =
        ap (λ bytes. let b : BusState = record bus { bytes = bytes } in memory_of b) (spliced-none bus.bytes at)
        ∙ ap (λ page. with_page1 page m) (sym (with_row_part-none m.page1 row left))
    go (suc k) h =
        ap (λ ys. memory_of (laid bus at ys)) one_more
        ∙ ap (λ bytes. let b : BusState = record bus { bytes = bytes } in memory_of b)
        (sym (spliced-more bus.bytes at (take k part) (at + k) byte (ap (λ n. at + n) high) (omega (arith, low, size, h))))
        ∙ part_more m (memory_of (laid bus at (take k part))) _ row left (take k part) (left + k) byte (page1_is_grid bus) row_ok
        (ap (λ n. left + n) high) (omega (arith, h, right)) (go k (omega (arith, h)))
        (store_seen (laid bus at (take k part)) (at + k) byte same_size (omega (arith, low, h))
        ∙ ap (λ a. with_ram (memory_of (laid bus at (take k part))) a byte) (omega arith)
        ∙ cell_written (memory_of (laid bus at (take k part))) row (left + k) byte row_ok (omega (arith, h, right)))
        ∙ ap (λ ys. with_page1 (with_row_part m.page1 row left ys) m) (sym one_more)
      where
        byte : ℕ
        byte = get_or part k 0

        high : length (take k part) ≡ k
        high = length-take-le k part (omega (arith, h))

        one_more : take (suc k) part ≡ take k part ++ byte ∷ []
        one_more = let e : suc k ≡ k + 1 = omega arith in ap (λ n. take n part) e ∙ take_more part k 0 (omega (arith, h))

        same_size : length (laid bus at (take k part)).bytes ≡ ram_end
        same_size = spliced-length bus.bytes at (take k part) (omega (arith, high, low, size, h)) ∙ size

-- the bytes of a part of a row
pub row_taken : (bus : BusState) (row left width : ℕ) → length bus.bytes ≡ ram_end → row < 24 → left + width ≤ 40
    → slice_range bus.bytes (address_of One row left) (address_of One row left + width)
    ≡ slice_range (slice_index_or (memory_of bus).page1 row []) left (left + width)
row_taken bus row left width size row_ok right =
    ext_get_or 0 _ _ (long_bytes ∙ sym long_cells)
    (λ k lt.
    range-at bus.bytes at (at + width) k (at + k) 0 (omega (arith, low, size)) refl (omega (arith, lt, long_bytes))
    ∙ ap (λ a. slice_index bus.bytes a) (omega arith)
    ∙ sym ((memory_of-agrees bus size).cells One row (left + k) row_ok (omega (arith, lt, long_bytes, right)))
    ∙ sym (range-at cells left (left + width) k (left + k) 0 (omega (arith, wide, right)) refl (omega (arith, lt, long_bytes))))
  where
    at : ℕ
    at = address_of One row left

    cells : List ℕ
    cells = slice_index_or (memory_of bus).page1 row []

    wide : length cells ≡ 40
    wide = (page1_is_grid bus).width row row_ok

    low : at + width ≤ ram_end
    low = omega (arith, row_ok, right)

    long_bytes : length (slice_range bus.bytes at (at + width)) ≡ width
    long_bytes = range_long bus.bytes at width (omega (arith, low, size))

    long_cells : length (slice_range cells left (left + width)) ≡ width
    long_cells = range_long cells left width (omega (arith, wide, right))

-- The row below

abbrev pub part_below : Memory → ℕ → ℕ → ℕ → List ℕ
part_below m row left width = slice_range (slice_index_or m.page1 (row + 1) []) left (left + width)

pub below_long : (m : Memory) (row left width : ℕ) → IsGrid m.page1 → row + 1 < 24 → left + width ≤ 40 → length (part_below m row left width) ≡ width
below_long m row left width h row_ok right = range_long (slice_index_or m.page1 (row + 1) []) left width (omega (arith, h.width (row + 1) row_ok, right))

-- Turning a window into a target, row by row

pub record Turning (target : Grid) (m n : Memory) (top row : ℕ) : Type 0 where
  pub same : n ≡ with_page1 n.page1 m
  pub done : IsDone target m.page1 n.page1 top row

pub turning_first : (target : Grid) (m : Memory) (top : ℕ) → IsGrid m.page1 → Turning target m m top top
turning_first target m top h = record { same = refl; done = done_first target m.page1 top h }

turning_more : (target : Grid) (m n k : Memory) (top row left : ℕ) (part : List ℕ) → Turning target m n top row → top ≤ row → row < 24 → left + length part ≤ 40
    → slice_index_or target row [] ≡ with_part (slice_index_or m.page1 row []) left part
    → k ≡ with_page1 (with_row_part n.page1 row left part) n
    → Turning target m k top (row + 1)
turning_more target m n k top row left part h low row_ok fits is step =
    let next : Memory = with_page1 (with_row_part n.page1 row left part) n in
    let goal : Turning target m next top (row + 1) = record {
      same = ap (λ (x : Memory). with_page1 (with_row_part n.page1 row left part) x) h.same;
      done = done_more target m.page1 n.page1 top row left part h.done low row_ok fits is;
    } in
    let P : Memory → Type 0 = λ x. Turning target m x top (row + 1) in
    subst P (sym step) goal

turned : (target : Grid) (m n : Memory) (top bottom : ℕ) → Turning target m n top bottom → length target ≡ 24
    → ((r : ℕ) → (r < top) ⊎ (bottom ≤ r) → slice_index_or target r [] ≡ slice_index_or m.page1 r [])
    → n ≡ with_page1 target m
turned target m n top bottom h high out = h.same ∙ ap (λ page. with_page1 page m) (done_all target m.page1 n.page1 top bottom h.done high out)

pub scroll_more : (w : Window) (m n k : Memory) (row : ℕ) → IsWindow w → IsGrid m.page1
    → Turning (scrolled w m.page1) m n w.top row → w.top ≤ row → row + 1 < w.bottom
    → k ≡ with_page1 (with_row_part n.page1 row w.left (part_below n row w.left w.width)) n
    → Turning (scrolled w m.page1) m k w.top (row + 1)
scroll_more w m n k row w_is g_is h low lt step =
    turning_more (scrolled w m.page1) m n k w.top row w.left (part_below m row w.left w.width) h low (omega (arith, lt, w_is.bottom))
    (omega (arith, below_long m row w.left w.width g_is (omega (arith, lt, w_is.bottom)) w_is.right, w_is.right))
    (scrolled-in w m.page1 row w_is g_is.height low lt)
    (step ∙ ap (λ cells. with_page1 (with_row_part n.page1 row w.left (slice_range cells w.left (w.left + w.width))) n)
    (h.done.rest (row + 1) (inr (omega arith))))

pub scroll_all : (w : Window) (m n k : Memory) (row : ℕ) → IsWindow w → IsGrid m.page1
    → Turning (scrolled w m.page1) m n w.top row → row + 1 ≡ w.bottom
    → k ≡ with_page1 (with_row_part n.page1 row w.left (replicate w.width blank)) n
    → k ≡ with_page1 (scrolled w m.page1) m
scroll_all w m n k row w_is g_is h e step =
    turned (scrolled w m.page1) m k w.top (row + 1)
    (turning_more (scrolled w m.page1) m n k w.top row w.left (blank_part w) h (omega (arith, e, w_is.height)) (omega (arith, e, w_is.bottom))
    (omega (arith, length-replicate {A = ℕ} w.width blank, w_is.right))
    (scrolled-last w m.page1 row w_is g_is.height e) step)
    (scrolled-height w m.page1 w_is g_is.height)
    (λ r outside. scrolled-out w m.page1 w_is g_is.height r (wider r outside))
  where
    wider : (r : ℕ) → (r < w.top) ⊎ (row + 1 ≤ r) → (r < w.top) ⊎ (w.bottom ≤ r)
    wider r (inl a) = inl a
    wider r (inr b) = inr (omega (arith, b, e))

pub clear_more : (w : Window) (m n k : Memory) (row : ℕ) → IsWindow w → IsGrid m.page1
    → Turning (cleared w m.page1) m n w.top row → w.top ≤ row → row < w.bottom
    → k ≡ with_page1 (with_row_part n.page1 row w.left (replicate w.width blank)) n
    → Turning (cleared w m.page1) m k w.top (row + 1)
clear_more w m n k row w_is g_is h low lt step =
    turning_more (cleared w m.page1) m n k w.top row w.left (blank_part w) h low (omega (arith, lt, w_is.bottom))
    (omega (arith, length-replicate {A = ℕ} w.width blank, w_is.right))
    (cleared-in w m.page1 row w_is g_is.height low lt) step

pub clear_all : (w : Window) (m n : Memory) (row : ℕ) → IsWindow w → IsGrid m.page1
    → Turning (cleared w m.page1) m n w.top row → row ≡ w.bottom
    → n ≡ with_page1 (cleared w m.page1) m
clear_all w m n row w_is g_is h e =
    let P : ℕ → Type 0 = λ r. Turning (cleared w m.page1) m n w.top r in
    turned (cleared w m.page1) m n w.top w.bottom (subst P e h) (cleared-height w m.page1 w_is g_is.height) (cleared-out w m.page1 w_is g_is.height)

-- Making page 1 black, row by row

pub record IsBlack (target : Grid) : Type 0 where
  pub height : length target ≡ 24
  pub rows : (row : ℕ) → row < 24 → slice_index_or target row [] ≡ replicate 40 0

pub black_is : IsBlack black
black_is = record {
  height = refl;
  rows = λ row row_ok. get_or-replicate 24 row (replicate 40 0) [] row_ok;
}

pub black_more : (target : Grid) (m n k : Memory) (row : ℕ) → IsBlack target → IsGrid m.page1 → Turning target m n 0 row → row < 24
    → k ≡ with_page1 (with_row_part n.page1 row 0 (replicate 40 0)) n
    → Turning target m k 0 (row + 1)
black_more target m n k row is_black g_is h row_ok step =
    turning_more target m n k 0 row 0 (replicate 40 0) h (omega arith) row_ok (omega arith)
    (is_black.rows row row_ok ∙ sym (spliced-whole (slice_index_or m.page1 row []) (replicate 40 0) (g_is.width row row_ok))) step

pub black_all : (target : Grid) (m n : Memory) (row : ℕ) → IsBlack target → IsGrid m.page1 → Turning target m n 0 row → row ≡ 24
    → n ≡ with_page1 target m
black_all target m n row is_black g_is h e =
    let P : ℕ → Type 0 = λ r. Turning target m n 0 r in
    turned target m n 0 24 (subst P e h) is_black.height past
  where
    past : (r : ℕ) → (r < 0) ⊎ (24 ≤ r) → slice_index_or target r [] ≡ slice_index_or m.page1 r []
    past r (inl low) = absurd (omega (arith, low))
    past r (inr high) =
        get_or_past target r [] (omega (arith, high, is_black.height)) ∙ sym (get_or_past m.page1 r [] (omega (arith, high, g_is.height)))

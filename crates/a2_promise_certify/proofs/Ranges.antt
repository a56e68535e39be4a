-- What is known about each of several consecutive numbers.
use Rattle.std.specs.Prelude.{ℕ, zero, suc, ◌+◌, ◌-◌, ◌<◌, ◌≤◌, Bool, IsTrue, List, map}
use Rattle.std.specs.List.{flat_map}
use Rattle.std.proofs.Common.{arith}
use Rattle.a2_page.specs.Cells.{numbers_from}
use Rattle.a2_page.specs.Grid.{Window}
use Rattle.a2_services.specs.Blocks.{numbers_from_to}
use Rattle.a2_footprint.specs.Reads.{Knows}
use Rattle.a2_footprint.specs.Services.{cells_across, window_cells}
use Rattle.a2_promise_certify.proofs.Walking.{knows_both}

-- a property of each number from one up to but not including another
abbrev pub HoldsBelow : (ℕ → Type 0) → ℕ → ℕ → Type 0
HoldsBelow P first end = (k : ℕ) → first ≤ k → k < end → P k

later : (P : ℕ → Type 0) (first count : ℕ) → HoldsBelow P first (first + suc count) → HoldsBelow P (suc first) (suc first + count)
later P first count h k low high = h k (omega (arith, low)) (omega (arith, high))

knows_numbers : (known : ℕ → Bool) (first count : ℕ) → HoldsBelow (λ k. IsTrue (known k)) first (first + count)
    → Knows known (numbers_from first count)
knows_numbers known first zero h = tt
knows_numbers known first (suc count) h =
    (h first (omega arith) (omega arith), knows_numbers known (suc first) count (later (λ k. IsTrue (known k)) first count h))

knows_map : (known : ℕ → Bool) (f : ℕ → ℕ) (first count : ℕ) → HoldsBelow (λ k. IsTrue (known (f k))) first (first + count)
    → Knows known (map f (numbers_from first count))
knows_map known f first zero h = tt
knows_map known f first (suc count) h =
    (h first (omega arith) (omega arith), knows_map known f (suc first) count (later (λ k. IsTrue (known (f k))) first count h))

knows_lists : (known : ℕ → Bool) (f : ℕ → List ℕ) (first count : ℕ) → HoldsBelow (λ k. Knows known (f k)) first (first + count)
    → Knows known (flat_map f (numbers_from first count))
knows_lists known f first zero h = tt
knows_lists known f first (suc count) h =
    knows_both known (f first) (flat_map f (numbers_from (suc first) count)) (h first (omega arith) (omega arith))
    (knows_lists known f (suc first) count (later (λ k. Knows known (f k)) first count h))

-- this many numbers, and the limit up to which they are known
pub knows_cells : (known : ℕ → Bool) (first count end : ℕ) → first + count ≤ end → HoldsBelow (λ k. IsTrue (known k)) first end
    → Knows known (numbers_from first count)
knows_cells known first count end reach h = knows_numbers known first count (λ k low lt. h k low (omega (arith, reach, lt)))

-- the cells of a window, row by row
pub knows_window : (known : ℕ → Bool) (window : Window) (end : ℕ) → window.top < window.bottom → window.bottom ≤ end
    → HoldsBelow (λ row. Knows known (cells_across row window.left window.width)) window.top end → Knows known (window_cells window)
knows_window known window end high reach h =
    knows_lists known (λ row. cells_across row window.left window.width) window.top (window.bottom - window.top)
    (λ row low lt. h row low (omega (arith, high, reach, lt)))

-- the cells of a span of blocks
pub knows_span : (known : ℕ → Bool) (f : ℕ → ℕ) (first last end : ℕ) → first < end → last < end
    → HoldsBelow (λ k. IsTrue (known (f k))) first end → Knows known (map f (numbers_from_to first last))
knows_span known f first last end low high h =
    knows_map known f first (last - first + 1) (λ k least lt. h k least (omega (arith, low, high, lt)))

-- The addresses of a window's cells.
use Rattle.std.specs.Prelude.{◌≡◌, ◌≢◌, ◌⊎◌, ℕ, zero, suc, ◌+◌, ◌-◌, ◌<◌, ◌≤◌, ◌==◌, Bool, true, false, ◌||◌, IsTrue, List, [], ◌∷◌, refl}
use Rattle.std.specs.List.{flat_map}
use Rattle.std.proofs.Common.{sym, ap, ◌∙◌, subst, arith, true≢false, inl, inr}
use Rattle.std.proofs.lemmas.Bool.{cases_eq}
use Rattle.std.proofs.lemmas.Bool.Decides.{nat_tests}
use Rattle.std.proofs.lemmas.List.Folds.{list_any-append}
use Rattle.a2_text.specs.Bytes.{is_among}
use Rattle.a2_page.specs.declared.Page.TheVariants.{One}
use Rattle.a2_page.specs.Cells.{Cell, address_of, numbers_from}
use Rattle.a2_page.specs.Grid.{Window}
use Rattle.a2_page.specs.Window.{IsWindow}
use Rattle.a2_bus.proofs.Agreement.{same_cell}
use Rattle.a2_cpu.specs.Stores.{IsNotIn}
use Rattle.a2_footprint.specs.Reads.{Knows}
use Rattle.a2_footprint.specs.Services.{cells_across, window_cells}
use Rattle.a2_footprint.proofs.Agreeing.{among_or}

-- The members of a list

pub not_in_among : (a : ℕ) (ns : List ℕ) → IsNotIn a ns → is_among ns a ≡ false
not_in_among a [] h = refl
not_in_among a (n ∷ ns) h =
    let other : (n == a) ≡ false = grind (arith, nat_tests, h.0) in
    ap (λ v. v || is_among ns a) other ∙ not_in_among a ns h.1

pub known_among : (known : ℕ → Bool) (ns : List ℕ) (a : ℕ) → Knows known ns → is_among ns a ≡ true → IsTrue (known a)
known_among known [] a h is = absurd (true≢false (sym is))
known_among known (n ∷ ns) a h is = go (n == a) refl is (λ rest. known_among known ns a h.1 rest)
  where
    go : (same : Bool) → (n == a) ≡ same → same || is_among ns a ≡ true → (is_among ns a ≡ true → IsTrue (known a)) → IsTrue (known a)
    go true e _ _ = let f : n ≡ a = grind (arith, nat_tests, e) in subst (λ k. IsTrue (known k)) f h.0
    go false _ rest later = later rest

-- Consecutive numbers

pub numbers_among : (first count a : ℕ) → first ≤ a → a < first + count → is_among (numbers_from first count) a ≡ true
numbers_among first zero a low high = absurd (omega (arith, low, high))
numbers_among first (suc count) a low high =
    go (first == a) refl (λ more. numbers_among (suc first) count a more (omega (arith, high)))
  where
    go : (same : Bool) → (first == a) ≡ same → (suc first ≤ a → is_among (numbers_from (suc first) count) a ≡ true)
        → same || is_among (numbers_from (suc first) count) a ≡ true
    go true _ _ = refl
    go false is later = let more : suc first ≤ a = grind (arith, nat_tests, is, low) in later more

pub numbers_in : (first count a : ℕ) → is_among (numbers_from first count) a ≡ true → (first ≤ a) × (a < first + count)
numbers_in first zero a h = absurd (true≢false (sym h))
numbers_in first (suc count) a h = go (first == a) refl h (λ rest. numbers_in (suc first) count a rest)
  where
    go : (same : Bool) → (first == a) ≡ same → same || is_among (numbers_from (suc first) count) a ≡ true
        → (is_among (numbers_from (suc first) count) a ≡ true → (suc first ≤ a) × (a < suc first + count))
        → (first ≤ a) × (a < first + suc count)
    go true is _ _ = let e : first ≡ a = grind (arith, nat_tests, is) in (omega (arith, e), omega (arith, e))
    go false _ rest later =
        let found : (suc first ≤ a) × (a < suc first + count) = later rest in
        (omega (arith, found.0), omega (arith, found.1))

-- A list for each of consecutive numbers

pub rows_among : (f : ℕ → List ℕ) (top count row a : ℕ) → top ≤ row → row < top + count → is_among (f row) a ≡ true
    → is_among (flat_map f (numbers_from top count)) a ≡ true
rows_among f top zero row a low high is = absurd (omega (arith, low, high))
rows_among f top (suc count) row a low high is =
    list_any-append (λ m. m == a) (f top) (flat_map f (numbers_from (suc top) count))
    ∙ go (cases_eq top row) (λ more. rows_among f (suc top) count row a more (omega (arith, high)) is)
  where
    go : (top ≡ row) ⊎ (top ≢ row) → (suc top ≤ row → is_among (flat_map f (numbers_from (suc top) count)) a ≡ true)
        → is_among (f top) a || is_among (flat_map f (numbers_from (suc top) count)) a ≡ true
    go (inl e) _ = ap (λ v. v || is_among (flat_map f (numbers_from (suc top) count)) a) (ap (λ k. is_among (f k) a) e ∙ is)
    go (inr other) later = among_or (is_among (f top) a) _ (later (omega (arith, other, low)))

-- the list of one of the numbers has this member
pub record IsInRow (f : ℕ → List ℕ) (top count a : ℕ) : Type 0 where
  pub row : ℕ
  pub low : top ≤ row
  pub high : row < top + count
  pub is : is_among (f row) a ≡ true

pub rows_in : (f : ℕ → List ℕ) (top count a : ℕ) → is_among (flat_map f (numbers_from top count)) a ≡ true → IsInRow f top count a
rows_in f top zero a h = absurd (true≢false (sym h))
rows_in f top (suc count) a h =
    go (is_among (f top) a) refl (sym (list_any-append (λ m. m == a) (f top) (flat_map f (numbers_from (suc top) count))) ∙ h)
    (λ rest. rows_in f (suc top) count a rest)
  where
    go : (here : Bool) → is_among (f top) a ≡ here → here || is_among (flat_map f (numbers_from (suc top) count)) a ≡ true
        → (is_among (flat_map f (numbers_from (suc top) count)) a ≡ true → IsInRow f (suc top) count a) → IsInRow f top (suc count) a
    go true is _ _ = record { row = top; low = omega arith; high = omega arith; is = is }
    go false _ rest later =
        let found : IsInRow f (suc top) count a = later rest in
        record { row = found.row; low = omega (arith, found.low); high = omega (arith, found.high); is = found.is }

-- The cells of a window

-- the window has no cell outside the screen, and may have no cells at all
pub record IsOnScreen (w : Window) : Type 0 where
  pub right : w.left + w.width ≤ 40
  pub bottom : w.bottom ≤ 24

pub on_screen : (w : Window) → IsWindow w → IsOnScreen w
on_screen w h = record { right = h.right; bottom = h.bottom }

-- a cell of page 1 at an address
pub record IsCell (a : ℕ) : Type 0 where
  pub row : ℕ
  pub column : ℕ
  pub row_ok : row < 24
  pub column_ok : column < 40
  pub is : address_of One row column ≡ a

-- a row and a column are in the window
pub record IsCovered (w : Window) (row column : ℕ) : Type 0 where
  pub top : w.top ≤ row
  pub bottom : row < w.bottom
  pub left : w.left ≤ column
  pub right : column < w.left + w.width

pub window_among : (w : Window) (row column : ℕ) → IsCovered w row column → is_among (window_cells w) (address_of One row column) ≡ true
window_among w row column h =
    rows_among (λ row. cells_across row w.left w.width) w.top (w.bottom - w.top) row (address_of One row column) h.top (omega (arith, h.top, h.bottom))
    (numbers_among (address_of One row w.left) w.width (address_of One row column) (omega (arith, h.left)) (omega (arith, h.right)))

-- one of the window's cells is at an address
pub record IsInWindow (w : Window) (a : ℕ) : Type 0 where
  pub row : ℕ
  pub column : ℕ
  pub covered : IsCovered w row column
  pub is : address_of One row column ≡ a

pub window_in : (w : Window) (a : ℕ) → is_among (window_cells w) a ≡ true → IsInWindow w a
window_in w a h =
    let found : IsInRow (λ row. cells_across row w.left w.width) w.top (w.bottom - w.top) a =
    rows_in (λ row. cells_across row w.left w.width) w.top (w.bottom - w.top) a h in
    let start = address_of One found.row w.left in
    let lies : (start ≤ a) × (a < start + w.width) = numbers_in start w.width a found.is in
    record {
      row = found.row;
      column = w.left + (a - start);
      covered = record {
        top = found.low;
        bottom = omega (arith, found.low, found.high);
        left = omega arith;
        right = omega (arith, lies.0, lies.1);
      };
      is = omega (arith, lies.0);
    }

pub window_cell : (w : Window) → IsOnScreen w → (a : ℕ) → is_among (window_cells w) a ≡ true → IsCell a
window_cell w on a h =
    let found : IsInWindow w a = window_in w a h in
    record {
      row = found.row;
      column = found.column;
      row_ok = omega (arith, found.covered.bottom, on.bottom);
      column_ok = omega (arith, found.covered.right, on.right);
      is = found.is;
    }

pub window_out : (w : Window) → IsOnScreen w → (row column : ℕ) → row < 24 → column < 40 → (IsCovered w row column → ⊥)
    → is_among (window_cells w) (address_of One row column) ≡ false
window_out w on row column row_ok column_ok out = go (is_among (window_cells w) (address_of One row column)) refl
  where
    go : (v : Bool) → is_among (window_cells w) (address_of One row column) ≡ v → v ≡ false
    go false _ = refl
    go true is =
        let found : IsInWindow w (address_of One row column) = window_in w (address_of One row column) is in
        let same : (let x : Cell = record { page = One; row = found.row; column = found.column } in x) ≡ record { page = One; row = row; column = column } =
        same_cell One found.row found.column One row column (omega (arith, found.covered.bottom, on.bottom)) (omega (arith, found.covered.right, on.right))
        row_ok column_ok found.is in
        let e : found.row ≡ row = ap (λ (c : Cell). c.row) same in
        let f : found.column ≡ column = ap (λ (c : Cell). c.column) same in
        absurd (out (record {
          top = omega (arith, e, found.covered.top);
          bottom = omega (arith, e, found.covered.bottom);
          left = omega (arith, f, found.covered.left);
          right = omega (arith, f, found.covered.right);
        }))

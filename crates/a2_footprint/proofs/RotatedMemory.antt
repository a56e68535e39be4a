-- Loads and stores in a memory whose stack is rotated within its page.
use Rattle.std.specs.Prelude.{◌≡◌, ◌<◌, ℕ, ◌+◌, ◌%◌, ◌==◌, Bool, true, false, if◌then◌else◌, Option, Some, None, refl}
use Rattle.std.proofs.Common.{sym, ap, ◌∙◌, arith}
use Rattle.std.proofs.lemmas.Bool.Decides.{nat_tests}
use Rattle.a2_page.specs.declared.Page.{Page}
use Rattle.a2_page.specs.declared.Page.TheVariants.{One, Two}
use Rattle.a2_page.specs.Cells.{Cell, cell_at}
use Rattle.a2_page.specs.Grid.{byte_in, with_byte}
use Rattle.a2_page.proofs.CellAt.{nothing_before}
use Rattle.a2_bus.specs.Memory.{Memory, grid, with_grid, ram_byte, with_ram}
use Rattle.a2_bus.proofs.Agreement.{written}
use Rattle.a2_footprint.specs.InstructionReads.{pull_address}
use Rattle.a2_footprint.specs.RotatedStack.{in_stack, rotated_address, rotated_memory}
use Rattle.a2_footprint.proofs.Agreeing.{shows}

-- Addresses

-- an address outside the stack's page is unchanged
pub not_in_stack : (turn a : ℕ) → in_stack a ≡ false → rotated_address turn a ≡ a
not_in_stack turn a out = ap (λ b. if b then 0x100 + (a + turn) % 256 else a) out

-- an address in the page is rotated
pub turned_in_stack : (turn a : ℕ) → in_stack a ≡ true → rotated_address turn a ≡ 0x100 + (a + turn) % 256
turned_in_stack turn a is = ap (λ b. if b then 0x100 + (a + turn) % 256 else a) is

-- so is the address of a byte of the stack
pub turned_place : (turn s : ℕ) → s < 256 → rotated_address turn (0x100 + s) ≡ 0x100 + (s + turn) % 256
turned_place turn s low =
    let is : in_stack (0x100 + s) ≡ true = grind (arith, nat_tests, low) in
    turned_in_stack turn (0x100 + s) is ∙ omega arith

-- what a pull reads
pub pulled_place : (turn s count : ℕ) → rotated_address turn (pull_address s count) ≡ pull_address ((s + turn) % 256) count
pulled_place turn s count = turned_place turn ((s + count) % 256) (omega arith) ∙ omega arith

turned_stays : (turn a : ℕ) → in_stack (rotated_address turn a) ≡ in_stack a
turned_stays turn a = go (in_stack a) refl
  where
    go : (is : Bool) → in_stack a ≡ is → in_stack (rotated_address turn a) ≡ is
    go true is = ap in_stack (turned_in_stack turn a is) ∙ grind (arith, nat_tests)
    go false is = ap in_stack (not_in_stack turn a is) ∙ is

-- different addresses remain different
turned_same : (turn a b : ℕ) → (rotated_address turn b == rotated_address turn a) ≡ (b == a)
turned_same turn a b = go (in_stack a) (in_stack b) refl refl
  where
    both : {m n : ℕ} → rotated_address turn b ≡ m → rotated_address turn a ≡ n → (rotated_address turn b == rotated_address turn a) ≡ (m == n)
    both left right = λ i. left i == right i

    go : (at_a at_b : Bool) → in_stack a ≡ at_a → in_stack b ≡ at_b → (rotated_address turn b == rotated_address turn a) ≡ (b == a)
    go true true is too = both (turned_in_stack turn b too) (turned_in_stack turn a is) ∙ grind (arith, nat_tests, is, too)
    go true false is too = both (not_in_stack turn b too) (turned_in_stack turn a is) ∙ grind (arith, nat_tests, is, too)
    go false true is too = both (turned_in_stack turn b too) (not_in_stack turn a is) ∙ grind (arith, nat_tests, is, too)
    go false false is too = both (not_in_stack turn b too) (not_in_stack turn a is)

-- the stack has no cells
turned_cell : (turn a : ℕ) → cell_at (rotated_address turn a) ≡ cell_at a
turned_cell turn a = go (in_stack a) refl
  where
    go : (is : Bool) → in_stack a ≡ is → cell_at (rotated_address turn a) ≡ cell_at a
    go true is =
        ap cell_at (turned_in_stack turn a is) ∙ nothing_before (0x100 + (a + turn) % 256) (omega arith)
        ∙ sym (nothing_before a (grind (arith, nat_tests, is)))
    go false is = ap cell_at (not_in_stack turn a is)

-- Bytes

turned_grid : (turn : ℕ) (m : Memory) (page : Page) → grid (rotated_memory turn m) page ≡ grid m page
turned_grid turn m One = refl
turned_grid turn m Two = refl

pub turned_byte : (turn : ℕ) (m : Memory) (a : ℕ) → ram_byte (rotated_memory turn m) a ≡ ram_byte m (rotated_address turn a)
unfolding ram_byte
turned_byte turn m a = go (cell_at a) ∙ ap (λ found. shows m (rotated_address turn a) found) (sym (turned_cell turn a))
  where
    go : (found : Option Cell) → shows (rotated_memory turn m) a found ≡ shows m (rotated_address turn a) found
    go None = refl
    go (Some cell) = ap (λ cells. byte_in cells cell.row cell.column) (turned_grid turn m cell.page)

-- a byte outside the stack is the same
pub same_beside : (turn : ℕ) (m : Memory) (a : ℕ) → in_stack a ≡ false → ram_byte (rotated_memory turn m) a ≡ ram_byte m a
same_beside turn m a out = turned_byte turn m a ∙ ap (λ b. ram_byte m b) (not_in_stack turn a out)

pub turned_store : (turn : ℕ) (m : Memory) (a v : ℕ)
    → with_ram (rotated_memory turn m) a v ≡ rotated_memory turn (with_ram m (rotated_address turn a) v)
unfolding with_ram
turned_store turn m a v =
    go (cell_at a) ∙ ap (λ found. rotated_memory turn (written m (rotated_address turn a) v found)) (sym (turned_cell turn a))
  where
    go : (found : Option Cell) → written (rotated_memory turn m) a v found ≡ rotated_memory turn (written m (rotated_address turn a) v found)
    go None = λ i. record m { plain = λ b. if sym (turned_same turn a b) i then v else m.plain (rotated_address turn b) }
    go (Some cell) = by_page cell.page
      where
        by_page : (page : Page) → with_grid (rotated_memory turn m) page (with_byte (grid (rotated_memory turn m) page) cell.row cell.column v)
            ≡ rotated_memory turn (with_grid m page (with_byte (grid m page) cell.row cell.column v))
        by_page One = refl
        by_page Two = refl

-- a byte outside the stack is stored in the same way
pub store_beside : (turn : ℕ) (m : Memory) (a v : ℕ) → in_stack a ≡ false
    → with_ram (rotated_memory turn m) a v ≡ rotated_memory turn (with_ram m a v)
store_beside turn m a v out = turned_store turn m a v ∙ ap (λ b. rotated_memory turn (with_ram m b v)) (not_in_stack turn a out)

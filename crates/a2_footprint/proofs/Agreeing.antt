-- Two memories that hold the same bytes at known addresses, while both are read and written.
use Rattle.std.specs.Prelude.{◌≡◌, ◌≢◌, ◌⊎◌, ℕ, ◌<◌, ◌≤◌, ◌==◌, Bool, true, false, ◌||◌, IsTrue, nat_lt, if◌then◌else◌, List, [], ◌∷◌, ◌++◌, Option, Some, None, refl}
use Rattle.std.proofs.Common.{sym, ap, ◌∙◌, arith, inl, inr}
use Rattle.std.proofs.lemmas.Bool.Decides.{nat_tests}
use Rattle.a2_text.specs.Bytes.{is_among}
use Rattle.a2_page.specs.declared.Page.{Page}
use Rattle.a2_page.specs.declared.Page.TheVariants.{One, Two}
use Rattle.a2_page.specs.Cells.{Cell, cell_at}
use Rattle.a2_page.specs.Grid.{IsGrid, byte_in, with_byte}
use Rattle.a2_page.proofs.Finding.{IsCellAtAddress, cell_at-stands}
use Rattle.a2_page.proofs.GridLemmas.{byte_in-with_byte, IsGrid-with_byte, same_or_not}
use Rattle.a2_bus.proofs.Relating.{IsSimulation}
use Rattle.a2_bus.specs.Devices.{device_byte, after_access}
use Rattle.a2_bus.specs.Memory.{Memory, grid, ram_byte, with_ram, ram_end, memory_access}
use Rattle.a2_bus.proofs.Agreement.{written, grid-with_grid, devices-with_grid, IsGrid-with_grid}
use Rattle.a2_bus.proofs.Frame.{ram_byte-with_ram}
use Rattle.a2_cpu.specs.Stores.{Logged, logged}
use Rattle.a2_footprint.specs.Reads.{AgreeOn, with_bytes}
use Rattle.a2_footprint.proofs.Nearing.{IsSeen}

abbrev pub Pages : Memory → Type 0
Pages m = IsGrid m.page1 × IsGrid m.page2

page_of : (m : Memory) → Pages m → (page : Page) → IsGrid (grid m page)
page_of m h One = h.0
page_of m h Two = h.1

pub pages-with_ram : (m : Memory) (a v : ℕ) → Pages m → Pages (with_ram m a v)
unfolding with_ram
pages-with_ram m a v h = go (cell_at a) refl
  where
    go : (found : Option Cell) → cell_at a ≡ found → Pages (written m a v found)
    go None is = h
    go (Some cell) is =
        let new : IsGrid (with_byte (grid m cell.page) cell.row cell.column v) =
        IsGrid-with_byte (grid m cell.page) cell.row cell.column v (page_of m h cell.page) (cell_at-stands a cell is).row_ok in
        (IsGrid-with_grid m cell.page One _ new h.0, IsGrid-with_grid m cell.page Two _ new h.1)

pub devices-with_ram : (m : Memory) (a v : ℕ) → (with_ram m a v).devices ≡ m.devices
unfolding with_ram
devices-with_ram m a v = go (cell_at a)
  where
    go : (found : Option Cell) → (written m a v found).devices ≡ m.devices
    go None = refl
    go (Some cell) = devices-with_grid m cell.page _

-- the byte at an address, depending on whether the address is in a cell
abbrev pub shows : Memory → ℕ → Option Cell → ℕ
shows m a found = elim found [ Some cell ↦ byte_in (grid m cell.page) cell.row cell.column | None ↦ m.plain a ]

-- a byte that is written is read back
pub written_back : (m : Memory) (a v : ℕ) → Pages m → ram_byte (with_ram m a v) a ≡ v
unfolding ram_byte with_ram
written_back m a v h = go (cell_at a) refl
  where
    go : (found : Option Cell) → cell_at a ≡ found → shows (written m a v found) a found ≡ v
    go None is = let e : (a == a) ≡ true = grind (arith, nat_tests) in ap (λ b. if b then v else m.plain a) e
    go (Some cell) is =
        let stands : IsCellAtAddress a cell = cell_at-stands a cell is in
        ap (λ cells. byte_in cells cell.row cell.column) (grid-with_grid m cell.page _)
        ∙ byte_in-with_byte (grid m cell.page) cell.row cell.column v (page_of m h cell.page) stands.row_ok stands.column_ok

-- membership in a list with one more item
among_last : (b a : ℕ) (ns : List ℕ) → is_among (ns ++ a ∷ []) b ≡ true → (is_among ns b ≡ true) ⊎ (b ≡ a)
among_last b a [] h = go (a == b) refl h
  where
    go : (same : Bool) → (a == b) ≡ same → same || false ≡ true → (false ≡ true) ⊎ (b ≡ a)
    go true is _ = let e : b ≡ a = grind (arith, nat_tests, is) in inr e
    go false is bad = inl bad
among_last b a (n ∷ ns) h = go (n == b) h (λ rest. among_last b a ns rest)
  where
    go : (same : Bool) → same || is_among (ns ++ a ∷ []) b ≡ true
        → (is_among (ns ++ a ∷ []) b ≡ true → (is_among ns b ≡ true) ⊎ (b ≡ a))
        → (same || is_among ns b ≡ true) ⊎ (b ≡ a)
    go true _ _ = inl refl
    go false rest later = later rest

pub among_or : (among known : Bool) → IsTrue known → IsTrue (among || known)
among_or true known _ = refl
among_or false known is = is

-- stored before or known, or stored last
pub last_or_before : (known : ℕ → Bool) (b a : ℕ) (ns : List ℕ) → IsTrue (with_bytes (ns ++ a ∷ []) known b)
    → IsTrue (with_bytes ns known b) ⊎ (b ≡ a)
last_or_before known b a ns h = go (is_among (ns ++ a ∷ []) b) refl h
  where
    found : (is_among ns b ≡ true) ⊎ (b ≡ a) → IsTrue (with_bytes ns known b) ⊎ (b ≡ a)
    found (inl among) = inl (ap (λ v. v || known b) among)
    found (inr e) = inr e

    go : (among : Bool) → is_among (ns ++ a ∷ []) b ≡ among → IsTrue (among || known b) → IsTrue (with_bytes ns known b) ⊎ (b ≡ a)
    go true is _ = found (among_last b a ns is)
    go false is k = inl (among_or (is_among ns b) (known b) k)

-- the same writes were logged for both, and the bytes that they wrote are known too
pub record Noted (known : ℕ → Bool) (l r : Logged Memory) : Type 0 where
  pub log : l.log ≡ r.log
  pub agree : AgreeOn (with_bytes l.log known) l.memory r.memory

-- a read
same_byte : (known : ℕ → Bool) (m n : Memory) (a : ℕ) → AgreeOn known m n → IsTrue (known a)
    → memory_access.byte_at m a ≡ memory_access.byte_at n a
unfolding memory_access
same_byte known m n a h shown = go (nat_lt a ram_end) refl
  where
    go : (low : Bool) → nat_lt a ram_end ≡ low
        → (if low then ram_byte m a else device_byte m.devices a) ≡ (if low then ram_byte n a else device_byte n.devices a)
    go true is = let lt : a < ram_end = grind (arith, nat_tests, is) in h.bytes a lt shown
    go false is = ap (λ d. device_byte d a) h.devices

accessed : (known : ℕ → Bool) (m n : Memory) (a : ℕ) → AgreeOn known m n
    → AgreeOn known (record m { devices = after_access m.devices a }) (record n { devices = after_access n.devices a })
unfolding ram_byte
accessed known m n a h = record {
  left_pages = h.left_pages;
  right_pages = h.right_pages;
  devices = ap (λ d. after_access d a) h.devices;
  bytes = h.bytes;
}

agree_read : (known : ℕ → Bool) (m n : Memory) (a : ℕ) → AgreeOn known m n
    → AgreeOn known (memory_access.after_read m a) (memory_access.after_read n a)
unfolding memory_access
agree_read known m n a h = go (nat_lt a ram_end)
  where
    go : (low : Bool) → AgreeOn known (if low then m else record m { devices = after_access m.devices a })
        (if low then n else record n { devices = after_access n.devices a })
    go true = h
    go false = accessed known m n a h

-- a write to RAM
pub agree_ram : (known next : ℕ → Bool) (m n : Memory) (a v : ℕ) → AgreeOn known m n
    → ((b : ℕ) → IsTrue (next b) → IsTrue (known b) ⊎ (b ≡ a))
    → AgreeOn next (with_ram m a v) (with_ram n a v)
agree_ram known next m n a v h grows = record {
  left_pages = pages-with_ram m a v h.left_pages;
  right_pages = pages-with_ram n a v h.right_pages;
  devices = devices-with_ram m a v ∙ h.devices ∙ sym (devices-with_ram n a v);
  bytes = λ b lt now. each b lt (grows b now) (same_or_not b a);
}
  where
    each : (b : ℕ) → b < ram_end → IsTrue (known b) ⊎ (b ≡ a) → (b ≡ a) ⊎ (b ≢ a)
        → ram_byte (with_ram m a v) b ≡ ram_byte (with_ram n a v) b
    each b lt _ (inl e) =
        ap (λ k. ram_byte (with_ram m a v) k) e ∙ written_back m a v h.left_pages ∙ sym (written_back n a v h.right_pages)
        ∙ ap (λ k. ram_byte (with_ram n a v) k) (sym e)
    each b lt (inl shown) (inr other) =
        ram_byte-with_ram m a v b other ∙ h.bytes b lt shown ∙ sym (ram_byte-with_ram n a v b other)
    each b lt (inr e) (inr other) = absurd (other e)

-- a write to a device
agree_device : (known next : ℕ → Bool) (m n : Memory) (a : ℕ) → AgreeOn known m n → ram_end ≤ a
    → ((b : ℕ) → IsTrue (next b) → IsTrue (known b) ⊎ (b ≡ a))
    → AgreeOn next (record m { devices = after_access m.devices a }) (record n { devices = after_access n.devices a })
unfolding ram_byte
agree_device known next m n a h high grows = record {
  left_pages = h.left_pages;
  right_pages = h.right_pages;
  devices = ap (λ d. after_access d a) h.devices;
  bytes = λ b lt now. each b lt (grows b now);
}
  where
    each : (b : ℕ) → b < ram_end → IsTrue (known b) ⊎ (b ≡ a) → ram_byte m b ≡ ram_byte n b
    each b lt (inl shown) = h.bytes b lt shown
    each b lt (inr e) = let bad : ⊥ = omega (arith, e, lt, high) in absurd bad

agree_write : (known next : ℕ → Bool) (m n : Memory) (a v : ℕ) → AgreeOn known m n
    → ((b : ℕ) → IsTrue (next b) → IsTrue (known b) ⊎ (b ≡ a))
    → AgreeOn next (memory_access.after_write m a v) (memory_access.after_write n a v)
unfolding memory_access
agree_write known next m n a v h grows = go (nat_lt a ram_end) refl
  where
    go : (low : Bool) → nat_lt a ram_end ≡ low
        → AgreeOn next (if low then with_ram m a v else record m { devices = after_access m.devices a })
        (if low then with_ram n a v else record n { devices = after_access n.devices a })
    go true is = agree_ram known next m n a v h grows
    go false is = let high : ram_end ≤ a = grind (arith, nat_tests, is) in agree_device known next m n a h high grows

pub noting : (known : ℕ → Bool) → IsSeen (Noted known) known (logged memory_access) (logged memory_access)
noting known = record {
  same_byte = λ l r a h shown. same_byte (with_bytes l.log known) l.memory r.memory a h.agree (among_or (is_among l.log a) (known a) shown);
  kept_by_read = λ l r a h. record { log = h.log; agree = agree_read (with_bytes l.log known) l.memory r.memory a h.agree };
  kept_by_write = λ l r a v h. record {
    log = ap (λ log. log ++ a ∷ []) h.log;
    agree = agree_write (with_bytes l.log known) (with_bytes (l.log ++ a ∷ []) known) l.memory r.memory a v h.agree (λ b. last_or_before known b a l.log);
  };
}

pub agreeing : (known : ℕ → Bool) → IsSeen (AgreeOn known) known memory_access memory_access
agreeing known = record {
  same_byte = same_byte known;
  kept_by_read = agree_read known;
  kept_by_write = λ m n a v h. agree_write known known m n a v h (λ b is. inl is);
}

-- a memory with a log, and the same memory without it
abbrev pub Same : Logged Memory → Memory → Type 0
Same l m = l.memory ≡ m

pub logging : IsSimulation Same (logged memory_access) memory_access
logging = record {
  same_byte = λ l m a e. ap (λ k. memory_access.byte_at k a) e;
  kept_by_read = λ l m a e. ap (λ k. memory_access.after_read k a) e;
  kept_by_write = λ l m a b e. ap (λ k. memory_access.after_write k a b) e;
}

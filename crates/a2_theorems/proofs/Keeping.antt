-- Bytes that stores leave unchanged.
use Rattle.std.specs.Prelude.{◌≡◌, ℕ, ◌+◌, ◌*◌, ◌<◌, ◌≤◌, Bool, true, false, ◌||◌, ◌&&◌, ◌==◌, nat_lt, List, [], ◌∷◌, Option, Some, None, if◌then◌else◌, refl}
use Rattle.std.specs.List.{list_all}
use Rattle.std.proofs.Common.{sym, ap, ap₂, ◌∙◌, arith, true≢false}
use Rattle.std.proofs.lemmas.Bool.Decides.{nat_tests}
use Rattle.a2_text.specs.Bytes.{is_among}
use Rattle.a2_page.specs.declared.Page.{Page}
use Rattle.a2_page.specs.declared.Page.TheVariants.{One, Two}
use Rattle.a2_page.specs.Cells.{Cell, cell_at, address_of}
use Rattle.a2_page.specs.Grid.{Grid, byte_in, with_byte}
use Rattle.a2_page.proofs.Finding.{IsCellAtAddress, cell_at-stands}
use Rattle.a2_bus.specs.Memory.{Memory, grid, with_grid, ram_byte, with_ram}
use Rattle.a2_bus.proofs.Frame.{ram_byte-with_ram}
use Rattle.a2_services.specs.World.{World}
use Rattle.a2_theorems.specs.Routines.{Keeps, entered, word}

-- the memory after stores in their order, each an address and a byte
abbrev pub after_stores : List (ℕ × ℕ) → Memory → Memory
after_stores [] memory = memory
after_stores ((at, byte) ∷ later) memory = after_stores later (with_ram memory at byte)

both : (x y : Bool) → (x && y) ≡ true → (x ≡ true) × (y ≡ true)
both true y h = (refl, h)
both false y h = absurd (true≢false (sym h))

-- it keeps each byte at which none of them stores
kept_byte : (stores : List (ℕ × ℕ)) (memory : Memory) (changed : ℕ → Bool) (a : ℕ) → list_all (λ s. changed s.0) stores ≡ true
    → changed a ≡ false → ram_byte (after_stores stores memory) a ≡ ram_byte memory a
kept_byte [] memory changed a all h = refl
kept_byte ((at, byte) ∷ later) memory changed a all h =
    kept_byte later (with_ram memory at byte) changed a (both _ _ all).1 h
    ∙ ram_byte-with_ram memory at byte a (λ e. true≢false (sym (both _ _ all).0 ∙ ap changed (sym e) ∙ h))

-- Stores into an array

-- an address at or after the end differs from all addresses before the end
pub outside : (end : ℕ) (ns : List ℕ) (a : ℕ) → list_all (λ n. nat_lt n end) ns ≡ true → end ≤ a → is_among ns a ≡ false
outside end [] a h high = refl
outside end (n ∷ ns) a h high = go (nat_lt n end) refl h (λ e. outside end ns a e high)
  where
    go : (v : Bool) → nat_lt n end ≡ v → (v && list_all (λ n. nat_lt n end) ns) ≡ true
        → (list_all (λ n. nat_lt n end) ns ≡ true → is_among ns a ≡ false) → ((n == a) || is_among ns a) ≡ false
    go true is e rest = let other : (n == a) ≡ false = grind (arith, nat_tests, is, high) in ap (λ v. v || is_among ns a) other ∙ rest e
    go false is e rest = absurd (true≢false (sym e))

-- there is no cell above the text pages
no_cell : (a : ℕ) → 0xC00 ≤ a → cell_at a ≡ None
no_cell a high = go (cell_at a) refl
  where
    at_page : (page : Page) (row column : ℕ) → row < 24 → column < 40 → address_of page row column ≡ a → ⊥
    at_page One row column r c is = omega (arith, r, c, is, high)
    at_page Two row column r c is = omega (arith, r, c, is, high)

    go : (found : Option Cell) → cell_at a ≡ found → found ≡ None
    go None is = refl
    go (Some cell) is =
        let stands : IsCellAtAddress a cell = cell_at-stands a cell is in
        absurd (at_page cell.page cell.row cell.column stands.row_ok stands.column_ok stands.address_is)

-- a byte that is stored there is read back
pub stored : (memory : Memory) (a byte : ℕ) → 0xC00 ≤ a → ram_byte (with_ram memory a byte) a ≡ byte
unfolding ram_byte with_ram
stored memory a byte high = go (cell_at a) (no_cell a high)
  where
    go : (found : Option Cell) → found ≡ None
        → (let m : Memory = elim found as (λ _. Memory) [
          | Some cell ↦ with_grid memory cell.page (with_byte (grid memory cell.page) cell.row cell.column byte)
          | None ↦ record memory { plain = λ other. if other == a then byte else memory.plain other }
        ] in (elim found [ Some cell ↦ byte_in (grid m cell.page) cell.row cell.column | None ↦ m.plain a ])) ≡ byte
    go None is = let e : (a == a) ≡ true = grind (arith, nat_tests) in ap (λ b. if b then byte else memory.plain a) e
    go (Some cell) is = cc

-- stores leave the devices unchanged
stored_devices : (memory : Memory) (a byte : ℕ) → (with_ram memory a byte).devices ≡ memory.devices
unfolding with_ram
stored_devices memory a byte = go (cell_at a)
  where
    in_page : (page : Page) (cells : Grid) → (with_grid memory page cells).devices ≡ memory.devices
    in_page One cells = refl
    in_page Two cells = refl

    go : (found : Option Cell) → (let m : Memory = elim found as (λ _. Memory) [
      | Some cell ↦ with_grid memory cell.page (with_byte (grid memory cell.page) cell.row cell.column byte)
      | None ↦ record memory { plain = λ other. if other == a then byte else memory.plain other }
    ] in m.devices) ≡ memory.devices
    go None = refl
    go (Some cell) = in_page cell.page _

stores_devices : (stores : List (ℕ × ℕ)) (memory : Memory) → (after_stores stores memory).devices ≡ memory.devices
stores_devices [] memory = refl
stores_devices ((at, byte) ∷ later) memory = stores_devices later (with_ram memory at byte) ∙ stored_devices memory at byte

-- the bytes that later stores keep, of those that were kept until then
pub keeps_stores : (stores : List (ℕ × ℕ)) (memory : Memory) (changed : ℕ → Bool) (w v : World) → list_all (λ s. changed s.0) stores ≡ true
    → v.memory ≡ after_stores stores w.memory → Keeps memory changed w → Keeps memory changed v
keeps_stores stores memory changed w v all is rest = record {
  bytes = λ a h. ap (λ m. ram_byte m a) is ∙ kept_byte stores w.memory changed a all h ∙ rest.bytes a h;
  devices = ap (λ m. m.devices) is ∙ stores_devices stores w.memory ∙ rest.devices;
}

-- at its entry a routine has changed nothing
pub keeps_all : (org : ℕ) (memory : Memory) (changed : ℕ → Bool) → Keeps memory changed (entered org memory)
keeps_all org memory changed = record { bytes = λ a h. refl; devices = refl }

-- the bytes that the stores of a routine keep
pub kept : (stores : List (ℕ × ℕ)) (memory : Memory) (changed : ℕ → Bool) (v : World) → list_all (λ s. changed s.0) stores ≡ true
    → v.memory ≡ after_stores stores memory → Keeps memory changed v
kept stores memory changed v all is = keeps_stores stores memory changed (entered 0 memory) v all is (keeps_all 0 memory changed)

-- the bytes that a world with the same memory keeps
pub keeps_same : (memory : Memory) (changed : ℕ → Bool) (w v : World) → v.memory ≡ w.memory → Keeps memory changed w
    → Keeps memory changed v
keeps_same memory changed w v is rest = keeps_stores [] memory changed w v refl is rest

-- an address that may not change differs from all that may
other : (changed : ℕ → Bool) (ns : List ℕ) (a : ℕ) → list_all changed ns ≡ true → changed a ≡ false → is_among ns a ≡ false
other changed [] a all h = refl
other changed (n ∷ ns) a all h = by (n == a) refl (other changed ns a (both _ _ all).1 h)
  where
    by : (v : Bool) → (n == a) ≡ v → is_among ns a ≡ false → ((n == a) || is_among ns a) ≡ false
    by true is _ =
        let e : n ≡ a = grind (arith, nat_tests, is) in
        absurd (true≢false (sym (both _ _ all).0 ∙ ap changed e ∙ h))
    by false is rest = ap (λ b. b || is_among ns a) is ∙ rest

-- the bytes that are kept up to a middle memory, and then after it except at some addresses
pub keeps_on : (memory middle : Memory) (changed : ℕ → Bool) (ns : List ℕ) (v : World) → Keeps middle (is_among ns) v
    → list_all changed ns ≡ true → Keeps memory changed (entered 0 middle) → Keeps memory changed v
keeps_on memory middle changed ns v more all rest =
    record { bytes = λ a h. more.bytes a (other changed ns a all h) ∙ rest.bytes a h; devices = more.devices ∙ rest.devices }

-- a 16-bit word that is kept
pub keeps_word : (memory : Memory) (changed : ℕ → Bool) (w : World) (at : ℕ) → Keeps memory changed w → changed at ≡ false
    → changed (at + 1) ≡ false → word w.memory at ≡ word memory at
keeps_word memory changed w at keeps low high = ap₂ (λ l h. l + 256 * h) (keeps.bytes at low) (keeps.bytes (at + 1) high)

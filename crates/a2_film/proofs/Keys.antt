-- Keys that are typed after a step.
use Rattle.std.proofs.Common.{◌≡◌, ℕ, ◌+◌, ◌<◌, List, [], ◌∷◌, ◌++◌, length, take, get_or, Option, Some, None, refl, ap, sym, ◌∙◌, append_assoc}
use Rattle.std.proofs.lemmas.List.{append-nil, take_more}
use Rattle.a2_text.specs.Digits.{hex_pair}
use Rattle.a2_page.specs.declared.Page.{Page}
use Rattle.a2_page.specs.declared.Page.TheVariants.{One, Two}
use Rattle.a2_page.specs.Cells.{Cell, cell_at}
use Rattle.a2_page.specs.Grid.{byte_in}
use Rattle.a2_bus.specs.Devices.{Devices}
use Rattle.a2_bus.specs.Memory.{Memory, grid, ram_byte}
use Rattle.a2_bus.proofs.Viewing.{devices_seen}
use Rattle.a2_services.specs.World.{World}
use Rattle.a2_machine.specs.Meaning.{next}
use Rattle.a2_machine.specs.State.{Device, world_of_state}
use Rattle.a2_timed_keys.specs.Typed.{keys_typed_in, typed}
use Rattle.a2_film.specs.Rows.{typed_text}
use Rattle.a2_film.specs.Filmed.{Rest, IsFilmStep}

-- keys change no byte of RAM
memory-byte : (keys : List ℕ) (memory : Memory) (a : ℕ) → ram_byte (keys_typed_in keys memory) a ≡ ram_byte memory a
unfolding ram_byte
memory-byte keys memory a = go (cell_at a)
  where
    page : (p : Page) → grid (keys_typed_in keys memory) p ≡ grid memory p
    page One = refl
    page Two = refl

    go : (found : Option Cell) → (elim found as (λ _. ℕ) [
      | Some cell ↦ byte_in (grid (keys_typed_in keys memory) cell.page) cell.row cell.column
      | None ↦ memory.plain a
    ]) ≡ (elim found as (λ _. ℕ) [ Some cell ↦ byte_in (grid memory cell.page) cell.row cell.column | None ↦ memory.plain a ])
    go (Some cell) = ap (λ g. byte_in g cell.row cell.column) (page cell.page)
    go None = refl

pub typed-byte : (keys : List ℕ) (w : World) (a : ℕ) → ram_byte (typed keys w).memory a ≡ ram_byte w.memory a
unfolding typed
typed-byte keys w a = memory-byte keys w.memory a

pub typed-keys : (keys : List ℕ) (w : World) → (typed keys w).memory.devices.keys ≡ w.memory.devices.keys ++ keys
unfolding typed
typed-keys keys w = refl

-- the keys that were typed after a step are the last that wait at the machine
pub keys-last : (new : Device) (before after : World) (was is : Rest) (count : ℕ) → world_of_state new.state ≡ after
    → (h : IsFilmStep before after was is count)
    → new.state.bus.devices.keys ≡ (next h.code before).memory.devices.keys ++ h.keys
keys-last new before after was is count there h =
    sym (ap (λ (d : Devices). d.keys) (devices_seen new.state.bus))
    ∙ ap (λ (w : World). w.memory.devices.keys) (there ∙ h.world_is)
    ∙ typed-keys h.keys (next h.code before)

-- The text of keys

typed-joined : (xs ys : List ℕ) → typed_text (xs ++ ys) ≡ typed_text xs ++ typed_text ys
typed-joined [] ys = refl
typed-joined (x ∷ xs) ys =
    ap (λ (l : List ℕ). (0x74 ∷ hex_pair x) ++ l) (typed-joined xs ys)
    ∙ sym (append_assoc (0x74 ∷ hex_pair x) (typed_text xs) (typed_text ys))

-- a key more
pub keys-more : (start mid r1 r2 keys : List ℕ) (i : ℕ) → i < length keys → mid ≡ start ++ typed_text (take i keys)
    → r1 ≡ mid ++ 0x74 ∷ [] → r2 ≡ r1 ++ hex_pair (get_or keys i 0) → r2 ≡ start ++ typed_text (take (i + 1) keys)
keys-more start mid r1 r2 keys i low was letter digits =
    let pair = hex_pair (get_or keys i 0) in
    digits ∙ ap (λ (l : List ℕ). l ++ pair) letter ∙ append_assoc mid (0x74 ∷ []) pair
    ∙ ap (λ (l : List ℕ). l ++ (0x74 ∷ pair)) was
    ∙ append_assoc start (typed_text (take i keys)) (0x74 ∷ pair)
    ∙ ap (λ (l : List ℕ). start ++ l)
    (ap (λ (l : List ℕ). typed_text (take i keys) ++ l) (sym (append-nil (0x74 ∷ pair)))
    ∙ sym (typed-joined (take i keys) (get_or keys i 0 ∷ []))
    ∙ ap typed_text (sym (take_more keys i 0 low)))

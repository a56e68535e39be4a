-- Reading a line, key by key.
use Rattle.std.specs.Prelude.{◌≡◌, ◌≢◌, ℕ, zero, suc, ◌+◌, ◌<◌, ◌==◌, Bool, true, false, not, if◌then◌else◌, List, [], ◌∷◌, length, Option, Some, None, is_some, unwrap_or, slice_index, refl}
use Rattle.std.proofs.Common.{sym, ap, ◌∙◌, arith, true≢false}
use Rattle.std.proofs.lemmas.Bool.Decides.{nat_tests}
use Rattle.a2_page.specs.Cells.{Cell, cell_at}
use Rattle.a2_bus.specs.BusState.{BusState}
use Rattle.a2_bus.specs.View.{memory_of}
use Rattle.a2_bus.specs.Devices.{Devices, key_taken}
use Rattle.a2_bus.specs.Memory.{Memory, with_ram}
use Rattle.a2_bus.proofs.Agreement.{written, devices-with_grid}
use Rattle.a2_services.specs.Put.{after_line_feed, after_return, after_backspace, after_character, after_put_unmasked, after_put, prompt_character, inverse_mask, masked_by, with_cursor_column}
use Rattle.a2_services.specs.Services.{Reading, byte_of_key, after_byte, after_cancel, after_prompt, line_read, with_key_taken, cleared_to_end, lacks_keys, effect, back, with_a, with_memory}
use Rattle.a2_services.specs.World.{World}
use Rattle.a2_services.specs.declared.rows.Service.TheVariants.{Keyin}
use Rattle.a2_services.specs.Reading.{reading, rest_of, kept, first_of}

-- Putting a byte changes no device

pub ram_devices : (m : Memory) (a byte : ℕ) → (with_ram m a byte).devices ≡ m.devices
unfolding with_ram
ram_devices m a byte = go (cell_at a)
  where
    go : (found : Option Cell) → (written m a byte found).devices ≡ m.devices
    go None = refl
    go (Some cell) = devices-with_grid m cell.page _

line_feed_devices : (m : Memory) → (after_line_feed m).devices ≡ m.devices
unfolding after_line_feed
line_feed_devices m = grind (arith, ram_devices)

return_devices : (m : Memory) → (after_return m).devices ≡ m.devices
unfolding after_return
return_devices m = line_feed_devices (with_cursor_column 0 m) ∙ ram_devices m 0x24 0

backspace_devices : (m : Memory) → (after_backspace m).devices ≡ m.devices
unfolding after_backspace
backspace_devices m = grind (arith, ram_devices)

character_devices : (byte : ℕ) (m : Memory) → (after_character byte m).devices ≡ m.devices
unfolding after_character
character_devices byte m = grind (arith, ram_devices, return_devices)

put_unmasked_devices : (byte : ℕ) (m : Memory) → (after_put_unmasked byte m).devices ≡ m.devices
unfolding after_put_unmasked
put_unmasked_devices byte m = grind (arith, line_feed_devices, return_devices, backspace_devices, character_devices)

pub put_devices : (byte : ℕ) (m : Memory) → (after_put byte m).devices ≡ m.devices
unfolding after_put
put_devices byte m = put_unmasked_devices (masked_by byte (inverse_mask m)) m

prompt_devices : (m : Memory) → (after_prompt m).devices ≡ m.devices
prompt_devices m = put_devices (prompt_character m) (after_put 0x8D m) ∙ put_devices 0x8D m

cancel_devices : (m : Memory) → (after_cancel m).memory.devices ≡ m.devices
cancel_devices m = prompt_devices (after_put 0xDC m) ∙ put_devices 0xDC m

pub after_byte_devices : (byte : ℕ) (line : Reading) → (after_byte byte line).memory.devices ≡ line.memory.devices
after_byte_devices byte line = go line.len
  where
    go : (len : ℕ) → (after_byte byte (reading line.memory len)).memory.devices ≡ line.memory.devices
    go zero = grind (arith, put_unmasked_devices, prompt_devices, cancel_devices)
    go (suc len) = grind (arith, put_unmasked_devices, prompt_devices, cancel_devices)

-- The keys

taken_keys : (d : Devices) (key : ℕ) (keys : List ℕ) → d.keys ≡ key ∷ keys → (key_taken d).keys ≡ keys
taken_keys d key keys e =
    ap (λ l. (elim l as (λ _. Devices) [ [] ↦ d | k ∷ rest ↦ record d { keys = rest; last_key = k } ]).keys) e

kept_keys : (m : Memory) (len byte key : ℕ) (keys : List ℕ) → m.devices.keys ≡ key ∷ keys → (kept m len byte).devices.keys ≡ keys
kept_keys m len byte key keys e = ap (λ (d : Devices). d.keys) (ram_devices (with_key_taken m) (0x200 + len) byte) ∙ taken_keys m.devices key keys e

next_keys : (m : Memory) (len byte key : ℕ) (keys : List ℕ) (next : Reading) → m.devices.keys ≡ key ∷ keys
    → next ≡ after_byte byte (reading (kept m len byte) len) → next.memory.devices.keys ≡ keys
next_keys m len byte key keys next e is =
    ap (λ (r : Reading). r.memory.devices.keys) is
    ∙ ap (λ (d : Devices). d.keys) (after_byte_devices byte (reading (kept m len byte) len))
    ∙ kept_keys m len byte key keys e

same_key : (k key : ℕ) (keys : List ℕ) → first_of (k ∷ keys) ≡ Some key → k ≡ key
same_key k key keys e = ap (λ o. unwrap_or o k) e

pub line_none : (m : Memory) (len : ℕ) → first_of m.devices.keys ≡ None → rest_of m len ≡ reading m len
unfolding line_read
line_none m len none = go m.devices.keys refl none
  where
    go : (keys : List ℕ) → m.devices.keys ≡ keys → first_of keys ≡ None → rest_of m len ≡ reading m len
    go [] e h = ap (λ keys. line_read keys (reading m len)) e
    go (k ∷ keys) e h = cc

-- the line at its first key
at_key : (m : Memory) (len key byte k : ℕ) (keys : List ℕ) → m.devices.keys ≡ k ∷ keys → k ≡ key → byte ≡ byte_of_key m key
    → rest_of m len
    ≡ (if byte == 0x8D then reading (after_put 0x8D (cleared_to_end (kept m len byte))) len
    else line_read keys (after_byte byte (reading (kept m len byte) len)))
unfolding line_read
at_key m len key byte k keys e same is = grind arith

pub line_end : (m : Memory) (len key byte : ℕ) → first_of m.devices.keys ≡ Some key → byte ≡ byte_of_key m key → byte ≡ 0x8D
    → rest_of m len ≡ reading (after_put 0x8D (cleared_to_end (kept m len byte))) len
line_end m len key byte first is end = go m.devices.keys refl first
  where
    go : (keys : List ℕ) → m.devices.keys ≡ keys → first_of keys ≡ Some key → rest_of m len ≡ reading (after_put 0x8D (cleared_to_end (kept m len byte))) len
    go [] e h = cc
    go (k ∷ keys) e h =
        at_key m len key byte k keys e (same_key k key keys h) is
        ∙ (let t : (byte == 0x8D) ≡ true = grind (arith, nat_tests, end) in
        ap (λ v. if v then reading (after_put 0x8D (cleared_to_end (kept m len byte))) len else line_read keys (after_byte byte (reading (kept m len byte) len))) t)

pub line_more : (m : Memory) (len key byte : ℕ) (next : Reading) → first_of m.devices.keys ≡ Some key → byte ≡ byte_of_key m key → byte ≢ 0x8D
    → next ≡ after_byte byte (reading (kept m len byte) len)
    → rest_of next.memory next.len ≡ rest_of m len
line_more m len key byte next first is other step = go m.devices.keys refl first
  where
    go : (keys : List ℕ) → m.devices.keys ≡ keys → first_of keys ≡ Some key → rest_of next.memory next.len ≡ rest_of m len
    go [] e h = cc
    go (k ∷ keys) e h =
        ap (λ l. line_read l next) (next_keys m len byte k keys next e step)
        ∙ ap (λ r. line_read keys r) step
        ∙ (let t : (byte == 0x8D) ≡ false = grind (arith, nat_tests, other) in
        ap (λ v. if v then reading (after_put 0x8D (cleared_to_end (kept m len byte))) len else line_read keys (after_byte byte (reading (kept m len byte) len))) (sym t))
        ∙ sym (at_key m len key byte k keys e (same_key k key keys h) is)

pub fewer_keys : (m : Memory) (len key byte : ℕ) (next : Reading) → first_of m.devices.keys ≡ Some key
    → next ≡ after_byte byte (reading (kept m len byte) len)
    → length next.memory.devices.keys < length m.devices.keys
fewer_keys m len key byte next first step = go m.devices.keys refl first
  where
    go : (keys : List ℕ) → m.devices.keys ≡ keys → first_of keys ≡ Some key → length next.memory.devices.keys < length m.devices.keys
    go [] e h = cc
    go (k ∷ keys) e h = omega (arith, ap (λ (l : List ℕ). length l) (next_keys m len byte k keys next e step), ap (λ (l : List ℕ). length l) e)

-- The start of GETLN and RDKEY

pub line_from_prompt : (m n : Memory) (mark : ℕ) → mark ≡ prompt_character m → n ≡ after_put mark m
    → rest_of n 0 ≡ line_read m.devices.keys (reading (after_put (prompt_character m) m) 0)
line_from_prompt m n mark is step = grind (arith, put_devices)

-- no key is waiting exactly if there is no first key
pub lacks_unless : (m : Memory) (lacking : Bool) → is_some (first_of m.devices.keys) ≡ not lacking → lacking ≡ lacks_keys Keyin m
lacks_unless m lacking e = go m.devices.keys lacking e
  where
    go : (keys : List ℕ) (lacking : Bool) → is_some (first_of keys) ≡ not lacking
        → lacking ≡ elim keys [ [] ↦ true | k ∷ rest ↦ false ]
    go [] true e = refl
    go [] false e = cc
    go (k ∷ keys) true e = cc
    go (k ∷ keys) false e = refl

pub effect_key : (w : World) (key : ℕ) → first_of w.memory.devices.keys ≡ Some key
    → effect Keyin w ≡ back (with_a (0x80 + key) (with_memory (with_key_taken w.memory) w))
unfolding effect
effect_key w key first = go w.memory.devices.keys first
  where
    go : (keys : List ℕ) → first_of keys ≡ Some key
        → elim keys as (λ _. World) [ [] ↦ w | k ∷ rest ↦ back (with_a (0x80 + k) (with_memory (with_key_taken w.memory) w)) ]
        ≡ back (with_a (0x80 + key) (with_memory (with_key_taken w.memory) w))
    go [] h = cc
    go (k ∷ keys) h = ap (λ j. back (with_a (0x80 + j) (with_memory (with_key_taken w.memory) w))) (same_key k key keys h)

-- a key is waiting

pub some_key : (bus : BusState) (keys : List ℕ) → keys ≡ bus.devices.keys → lacks_keys Keyin (memory_of bus) ≡ false → 0 < length keys
unfolding memory_of
some_key bus keys e h = go keys (ap (λ (l : List ℕ). elim l [ [] ↦ true | k ∷ rest ↦ false ]) e ∙ h)
  where
    go : (l : List ℕ) → elim l [ [] ↦ true | k ∷ rest ↦ false ] ≡ false → 0 < length l
    go [] bad = absurd (true≢false bad)
    go (k ∷ rest) _ = omega arith

pub key_there : (bus : BusState) (keys : List ℕ) → keys ≡ bus.devices.keys → lacks_keys Keyin (memory_of bus) ≡ false
    → first_of (memory_of bus).devices.keys ≡ Some (slice_index keys 0)
unfolding memory_of
key_there bus keys e h = ap first_of (sym e) ∙ go keys (ap (λ (l : List ℕ). elim l [ [] ↦ true | k ∷ rest ↦ false ]) e ∙ h)
  where
    go : (l : List ℕ) → elim l [ [] ↦ true | k ∷ rest ↦ false ] ≡ false → first_of l ≡ Some (slice_index l 0)
    go [] bad = absurd (true≢false bad)
    go (k ∷ rest) _ = refl

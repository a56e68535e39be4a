-- A world in which a routine is entered and that meets its promise's requirements, built from a state that was found.
use Rattle.std.specs.Prelude.{◌≡◌, ◌<◌, ◌≤◌, ◌⊎◌, ℕ, zero, suc, ◌-◌, ◌==◌, ◌&&◌, nat_le, nat_lt, Bool, true, false, not, IsTrue, List, [], ◌∷◌, ◌++◌, flat_map, Option, Some, None, is_some, unwrap_or, slice_get, if◌then◌else◌, refl}
use Rattle.std.specs.List.{concat, list_all}
use Rattle.std.proofs.Common.{sym, ap, ap₂, ◌∙◌, subst, arith, inl, inr}
use Rattle.std.proofs.lemmas.Bool.{false≢true, lt-ltb}
use Rattle.a2_text.specs.FirstError.{◌otherwise◌}
use Rattle.a2_hex.specs.Images.{held}
use Rattle.a2_syntax.specs.declared.source.Body.{Body}
use Rattle.a2_syntax.specs.declared.source.Body.TheVariants.{Empty, Instr, Org, Equ, Dfb, Dw, Asc, Ds}
use Rattle.a2_asm.specs.declared.place.Place.{Place}
use Rattle.a2_asm.specs.Assembled.{Assembled}
use Rattle.a2_asm.specs.Bytes.{bytes_of as line_bytes, image, is_statement}
use Rattle.a2_asm.specs.Laying.{byte_from}
use Rattle.a2_asm.specs.Layout.{Row, names}
use Rattle.a2_asm.specs.Pass.{source_rows}
use Rattle.a2_asm.specs.Programs.{IsSound}
use Rattle.a2_asm.specs.Values.{Names}
use Rattle.a2_asm.proofs.MadeLaws.{IsMade}
use Rattle.a2_page.proofs.Parts.{grid_of-is_grid}
use Rattle.a2_page.specs.declared.Page.TheVariants.{One, Two}
use Rattle.a2_page.specs.Cells.{address_of}
use Rattle.a2_bus.specs.Devices.{Devices}
use Rattle.a2_bus.specs.Memory.{Memory, ram_byte, ram_end}
use Rattle.a2_bus.specs.PowerOn.{first_byte, first_devices, start_memory}
use Rattle.a2_bus.specs.View.{memory_from}
use Rattle.a2_bus.proofs.FirstBytes.{ram_byte-from, ram_byte-start}
use Rattle.a2_effect.specs.Registers.{Registers, registers_at}
use Rattle.a2_services.specs.World.{World}
use Rattle.a2_footprint.specs.declared.Part.{Part}
use Rattle.a2_footprint.specs.declared.Part.TheVariants.{A as part_a, X as part_x, Y as part_y, N as part_n, V as part_v, D as part_d, I as part_i, Z as part_z, C as part_c}
use Rattle.a2_footprint.specs.Parts.{is_part, held as part_held}
use Rattle.a2_theorems.proofs.TextRunProofs.{source_of}
use Rattle.a2_promise.specs.declared.promises.Promise.{Promise}
use Rattle.a2_promise.specs.PromisedTerms.{Terms, IsPromise}
use Rattle.a2_promise.specs.Values.{Moment}
use Rattle.a2_promise_certify.specs.Judging.{all_hold}
use Rattle.a2_promise_certify.specs.Kept.{bytes_of}
use Rattle.a2_promise_rules.specs.Promised.{IsEntered}
use Rattle.a2_promise_rules.specs.Typed.{keys_of}
use Rattle.a2_promise_rules.proofs.Proving.{eq_yes}
use Rattle.a2_promise_rules.proofs.Ranges.{both}
use Rattle.a2_promise_rules.proofs.EntryValues.{all_seen, entry, seen_holds}
use Rattle.a2_promise_rules.proofs.Valuing.{below, memory_byte}

-- the keys of all texts that are taken
abbrev pub keys_stated : Terms → List ℕ
keys_stated terms = concat terms.takes

pub same_keys : (promise : Promise) (terms : Terms) → IsPromise promise terms → keys_of promise ≡ keys_stated terms
same_keys promise terms says = ap concat says.takes

-- The bytes of a text

-- bytes, each with the address at which they start
abbrev pub Laid : Type 0
Laid = List (ℕ × List ℕ)

-- the bytes of a line that is a statement, with their address
abbrev line_laid : {A : Type 0} → Names → Place → Body A → Laid
line_laid all place body = if is_statement body then (place.address, line_bytes all place body) ∷ [] else []

abbrev rows_laid : {A : Type 0} → Names → List (Row A) → Laid
rows_laid all rows = flat_map (λ row. line_laid all row.place row.line.body) rows

-- the bytes of a text
abbrev pub laid_of : List ℕ → Laid
laid_of text = rows_laid (names (source_rows (source_of text))) (source_rows (source_of text))

-- the byte that they hold at an address
abbrev held_by : Laid → ℕ → Option ℕ
held_by [] a = None
held_by ((at, bytes) ∷ more) a = byte_from at bytes a otherwise held_by more a

none_laid : (at a : ℕ) → byte_from at [] a ≡ None
none_laid at a = by (nat_le at a)
  where
    by : (b : Bool) → (let o : Option ℕ = if b then slice_get [] (a - at) else None in o) ≡ None
    by true = refl
    by false = refl

line_held : {A : Type 0} (all : Names) (place : Place) (body : Body A) (a : ℕ) (rest : Option ℕ) (more : Laid)
    → rest ≡ held_by more a
    → (byte_from place.address (line_bytes all place body) a otherwise rest) ≡ held_by (line_laid all place body ++ more) a
line_held {A} all place body a rest more same = by body
  where
    nothing : (byte_from place.address [] a otherwise rest) ≡ held_by more a
    nothing = ap (λ o. o otherwise rest) (none_laid place.address a) ∙ same

    some : (bytes : List ℕ) → (byte_from place.address bytes a otherwise rest) ≡ held_by ((place.address, bytes) ∷ more) a
    some bytes = ap (λ o. byte_from place.address bytes a otherwise o) same

    by : (body : Body A)
        → (byte_from place.address (line_bytes all place body) a otherwise rest) ≡ held_by (line_laid all place body ++ more) a
    by Empty = nothing
    by (Org e) = nothing
    by (Equ e) = nothing
    by (Instr m operand) = some (line_bytes all place (Instr m operand))
    by (Dfb es) = some (line_bytes all place (Dfb es))
    by (Dw es) = some (line_bytes all place (Dw es))
    by (Asc bytes) = some bytes
    by (Ds e) = some (line_bytes all place (Ds e))

image_held : {A : Type 0} (all : Names) (rows : List (Row A)) (a : ℕ) → image all rows a ≡ held_by (rows_laid all rows) a
image_held all [] a = refl
image_held all (row ∷ more) a =
    line_held all row.place row.line.body a (image all more a) (rows_laid all more) (image_held all more a)

abbrev all_small : List ℕ → Bool
all_small bytes = list_all (λ b. nat_lt b 256) bytes

-- all of them are bytes
abbrev pub are_bytes : Laid → Bool
are_bytes laid = list_all (λ s. all_small s.1) laid

none_is : {Y : Type 0} (n : ℕ) → None ≡ Some n → Y
none_is n h = absurd (false≢true (ap is_some h))

same_some : (m n : ℕ) → Some m ≡ Some n → m ≡ n
same_some m n h = ap (λ o. unwrap_or o 0) h

at_small : (bytes : List ℕ) (i b : ℕ) → all_small bytes ≡ true → slice_get bytes i ≡ Some b → b < 256
at_small [] i b all h = none_is b h
at_small (c ∷ bytes) zero b all h =
    subst (λ n. n < 256) (same_some c b h) (below c 256 (both (nat_lt c 256) (all_small bytes) all).0)
at_small (c ∷ bytes) (suc i) b all h = at_small bytes i b (both (nat_lt c 256) (all_small bytes) all).1 h

from_small : (at : ℕ) (bytes : List ℕ) (a b : ℕ) → all_small bytes ≡ true → byte_from at bytes a ≡ Some b → b < 256
from_small at bytes a b all = by (nat_le at a)
  where
    by : (is : Bool) → (if is then slice_get bytes (a - at) else None) ≡ Some b → b < 256
    by true h = at_small bytes (a - at) b all h
    by false h = none_is b h

held_small : (laid : Laid) (a b : ℕ) → are_bytes laid ≡ true → held_by laid a ≡ Some b → b < 256
held_small [] a b all h = none_is b h
held_small ((at, bytes) ∷ more) a b all h =
    let two = both (all_small bytes) (are_bytes more) all in
    by (byte_from at bytes a) (λ c is. from_small at bytes a c two.0 is) (λ is. held_small more a b two.1 is) h
  where
    by : (found : Option ℕ) → ((c : ℕ) → found ≡ Some c → c < 256) → (held_by more a ≡ Some b → b < 256)
        → (found otherwise held_by more a) ≡ Some b → b < 256
    by None small rest so = rest so
    by (Some c) small rest so = small b so

-- A state

-- registers, and the bytes at some addresses
pub record State : Type 0 where
  pub registers : Registers
  pub bytes : List (ℕ × ℕ)

abbrev peek_in : List (ℕ × ℕ) → ℕ → Option ℕ
peek_in [] a = None
peek_in ((at, byte) ∷ more) a = if at == a then Some byte else peek_in more a

-- a byte of RAM at an address where the program has none
abbrev is_free : Laid → ℕ × ℕ → Bool
is_free laid (a, byte) = nat_lt a ram_end && (nat_lt byte 256 && not (is_some (held_by laid a)))

-- the bytes that are known: those of a state, and those of the program
abbrev known : Laid → List (ℕ × ℕ) → ℕ → Option ℕ
known laid bytes a = peek_in bytes a otherwise held_by laid a

-- the registers when a routine is entered
abbrev entering : ℕ → Registers → Registers
entering address registers = record registers { s = 0xFD; pc = address; flags = record registers.flags { d = false } }

-- a state consists of bytes, and meets the requirements
abbrev pub is_met : Terms → Laid → State → Bool
is_met terms laid state =
    nat_lt state.registers.a 256 && (nat_lt state.registers.x 256 && (nat_lt state.registers.y 256
    && (list_all (is_free laid) state.bytes
    && all_seen terms.wanted (entering terms.address state.registers) (known laid state.bytes))))

-- all bytes: those of the program, those of the state, and otherwise 0
abbrev filled : Laid → List (ℕ × ℕ) → ℕ → ℕ
filled laid bytes a = unwrap_or (held_by laid a) (unwrap_or (peek_in bytes a) 0)

abbrev pub world_of : Terms → Laid → State → World
world_of terms laid state = record {
  registers = entering terms.address state.registers;
  memory = memory_from (filled laid state.bytes) (first_devices (keys_stated terms));
  cycles = 0;
}

record IsFree (laid : Laid) (a byte : ℕ) : Type 0 where
  low : a < ram_end
  small : byte < 256
  is : held_by laid a ≡ None

is_none : (found : Option ℕ) → not (is_some found) ≡ true → found ≡ None
is_none None h = refl
is_none (Some n) h = absurd (false≢true h)

free : (laid : Laid) (a byte : ℕ) → is_free laid (a, byte) ≡ true → IsFree laid a byte
free laid a byte h =
    let two = both (nat_lt a ram_end) (nat_lt byte 256 && not (is_some (held_by laid a))) h in
    let more = both (nat_lt byte 256) (not (is_some (held_by laid a))) two.1 in
    record { low = below a ram_end two.0; small = below byte 256 more.0; is = is_none (held_by laid a) more.1 }

peeked : (laid : Laid) (bytes : List (ℕ × ℕ)) (a byte : ℕ) → list_all (is_free laid) bytes ≡ true
    → peek_in bytes a ≡ Some byte → IsFree laid a byte
peeked laid [] a byte all h = none_is byte h
peeked laid ((at, b) ∷ more) a byte all h =
    let two = both (is_free laid (at, b)) (list_all (is_free laid) more) all in
    by (at == a) refl (free laid at b two.0) (λ so. peeked laid more a byte two.1 so) h
  where
    by : (is : Bool) → (at == a) ≡ is → IsFree laid at b → (peek_in more a ≡ Some byte → IsFree laid a byte)
        → (if is then Some b else peek_in more a) ≡ Some byte → IsFree laid a byte
    by true is one rest so =
        subst (λ n. IsFree laid n byte) (eq_yes at a is) (subst (λ n. IsFree laid at n) (same_some b byte so) one)
    by false is one rest so = rest so

module _ (laid : Laid) (small : are_bytes laid ≡ true) (bytes : List (ℕ × ℕ))
    (all : list_all (is_free laid) bytes ≡ true) where
  filled_small : (a : ℕ) → filled laid bytes a < 256
  filled_small a = by (held_by laid a) refl
    where
      other : (found : Option ℕ) → peek_in bytes a ≡ found → unwrap_or found 0 < 256
      other None is = omega arith
      other (Some byte) is = (peeked laid bytes a byte all is).small

      by : (found : Option ℕ) → held_by laid a ≡ found → unwrap_or found (unwrap_or (peek_in bytes a) 0) < 256
      by None is = other (peek_in bytes a) refl
      by (Some byte) is = held_small laid a byte small is

  module _ (devices : Devices) where
    abbrev memory : Memory
    memory = memory_from (filled laid bytes) devices

    shows : ((a byte : ℕ) → held_by laid a ≡ Some byte → a < ram_end) → (a byte : ℕ) → known laid bytes a ≡ Some byte
        → slice_get (bytes_of memory) a ≡ Some byte
    shows inside a byte = by (peek_in bytes a) refl
      where
        filled_is : a < ram_end → filled laid bytes a ≡ byte → slice_get (bytes_of memory) a ≡ Some byte
        filled_is low is = memory_byte memory a low ∙ ap (λ n. Some n) (ram_byte-from (filled laid bytes) devices a ∙ is)

        by : (found : Option ℕ) → peek_in bytes a ≡ found → (found otherwise held_by laid a) ≡ Some byte
            → slice_get (bytes_of memory) a ≡ Some byte
        by None is h = filled_is (inside a byte h) (ap (λ o. unwrap_or o (unwrap_or (peek_in bytes a) 0)) h)
        by (Some b) is h =
            let it = peeked laid bytes a b all is in
            filled_is it.low (ap₂ (λ o p. unwrap_or o (unwrap_or p 0)) it.is is ∙ same_some b byte h)

-- THE WORLD: facts computed from the text and from a state show that a promise's routine is entered in it
module _ (text : List ℕ) (laid : Laid) (terms : Terms) (state : State) (lays : laid_of text ≡ laid)
    (small : are_bytes laid ≡ true) (met : is_met terms laid state ≡ true) (program : Assembled) (made : IsMade (source_of text) program) (sound : IsSound program)
    (promise : Promise) (says : IsPromise promise terms) where
  abbrev registers : Registers
  registers = entering terms.address state.registers

  abbrev devices : Devices
  devices = first_devices (keys_stated terms)

  abbrev world : World
  world = world_of terms laid state

  abbrev here : Moment
  here = entry registers (bytes_of world.memory)

  -- the parts of is_met, one after another
  record IsMet : Type 0 where
    a : state.registers.a < 256
    x : state.registers.x < 256
    y : state.registers.y < 256
    free : list_all (is_free laid) state.bytes ≡ true
    seen : all_seen terms.wanted registers (known laid state.bytes) ≡ true

  met_is : IsMet
  met_is =
      let frees : Bool = list_all (is_free laid) state.bytes in
      let seen : Bool = all_seen terms.wanted registers (known laid state.bytes) in
      let rest : Bool = nat_lt state.registers.y 256 && (frees && seen) in
      let one = both (nat_lt state.registers.a 256) (nat_lt state.registers.x 256 && rest) met in
      let two = both (nat_lt state.registers.x 256) rest one.1 in
      let three = both (nat_lt state.registers.y 256) (frees && seen) two.1 in
      let four = both frees seen three.1 in
      record {
        a = below state.registers.a 256 one.0;
        x = below state.registers.x 256 two.0;
        y = below state.registers.y 256 three.0;
        free = four.0;
        seen = four.1;
      }

  held_is : (a : ℕ) → held program.image a ≡ held_by laid a
  held_is a =
      made.laid a ∙ image_held (names (source_rows (source_of text))) (source_rows (source_of text)) a
      ∙ ap (λ l. held_by l a) lays

  -- a byte of the program is in RAM
  inside : (a byte : ℕ) → held_by laid a ≡ Some byte → a < ram_end
  inside a byte is = by (low_or_high a)
    where
      low_or_high : (a : ℕ) → (a < ram_end) ⊎ (ram_end ≤ a)
      low_or_high a = grind arith

      by : (a < ram_end) ⊎ (ram_end ≤ a) → a < ram_end
      by (inl low) = low
      by (inr high) = none_is byte (sym (sound.outside a high) ∙ held_is a ∙ is)

  -- the world holds this byte of the program
  same_byte : (a : ℕ) → (is_some (held program.image a) && true) ≡ true
      → ram_byte (start_memory (held program.image) (keys_of promise)) a ≡ ram_byte world.memory a
  same_byte a fixed = by (held program.image a) refl (both (is_some (held program.image a)) true fixed).0
    where
      by : (found : Option ℕ) → held program.image a ≡ found → is_some found ≡ true
          → ram_byte (start_memory (held program.image) (keys_of promise)) a ≡ ram_byte world.memory a
      by None is some = absurd (false≢true some)
      by (Some byte) is some =
          let laid_is : held_by laid a ≡ Some byte = sym (held_is a) ∙ is in
          ram_byte-start (held program.image) (keys_of promise) a
          ∙ ap (λ v. if v then unwrap_or (held program.image a) (first_byte a) else 0) (lt-ltb a ram_end (inside a byte laid_is))
          ∙ ap (λ o. unwrap_or o (first_byte a)) is
          ∙ sym (ram_byte-from (filled laid state.bytes) devices a
          ∙ ap (λ o. unwrap_or o (unwrap_or (peek_in state.bytes a) 0)) laid_is)

  is_required : IsTrue (all_hold promise.wanted.items here here)
  is_required =
      seen_holds (known laid state.bytes) (bytes_of world.memory) (shows laid small state.bytes met_is.free devices inside) registers
      promise.wanted.items (subst (λ l. all_seen l registers (known laid state.bytes) ≡ true) (sym says.wanted) met_is.seen)

  same_parts : (part : Part) → IsTrue (is_part part part_d)
      → part_held part (registers_at promise.address) ≡ part_held part registers
  same_parts part_d h = refl
  same_parts part_a h = absurd (false≢true h)
  same_parts part_x h = absurd (false≢true h)
  same_parts part_y h = absurd (false≢true h)
  same_parts part_n h = absurd (false≢true h)
  same_parts part_v h = absurd (false≢true h)
  same_parts part_i h = absurd (false≢true h)
  same_parts part_z h = absurd (false≢true h)
  same_parts part_c h = absurd (false≢true h)

  same_devices : (start_memory (held program.image) (keys_of promise)).devices ≡ world.memory.devices
  unfolding start_memory
  same_devices = ap first_devices (same_keys promise terms says)

  pub entered : IsEntered program promise world
  entered = record {
    bytes = record {
      a = met_is.a;
      x = met_is.x;
      y = met_is.y;
      ram = λ a.
          subst (λ n. n < 256) (sym (ram_byte-from (filled laid state.bytes) devices a))
          (filled_small laid small state.bytes met_is.free a);
    };
    enters = record {
      registers = record { s = refl; pc = says.address; parts = same_parts };
      bytes = same_byte;
      devices = same_devices;
      pages = (
        grid_of-is_grid (λ row column. filled laid state.bytes (address_of One row column)),
        grid_of-is_grid (λ row column. filled laid state.bytes (address_of Two row column)),
      );
      cycles = refl;
      inputs = tt;
    };
    required = is_required;
  }

-- What private calls compare and return. No public clause cites this file.
use Rattle.std.specs.Prelude.{◌≡◌, ◌≢◌, ℕ, zero, suc, ◌+◌, ◌-◌, nat_le, Bool, true, false, List, [], ◌∷◌, ◌++◌, All, length}
use Rattle.std.specs.Prelude.{if◌then◌else◌, slice_index, Option, Some, None, unwrap_or, Result, Ok, Err}
use Rattle.std.specs.Fmt.{decimal}
use Rattle.a2_stream.specs.Stream.{Taker, Sends, Breaks}
use Rattle.a2_text.specs.Digits.{hex_word}
use Rattle.a2_text.specs.FirstError.{◌otherwise◌, error_if}
use Rattle.a2_page.specs.declared.Switches.{Switches}
use Rattle.a2_effect.specs.Registers.{Registers, byte_of_flags}
use Rattle.a2_effect.specs.View.{registers_of}
use Rattle.a2_asm.specs.Assembled.{Assembled}
use Rattle.a2_services.specs.World.{World}
use Rattle.a2_services.specs.declared.rows.Service.{Service}
use Rattle.a2_services.specs.Services.{reach}
use Rattle.a2_machine.specs.declared.causes.Cause.{Cause}
use Rattle.a2_machine.specs.declared.causes.Cause.TheVariants.{Limit}
use Rattle.a2_machine.specs.Meaning.{Code, stuck, next}
use Rattle.a2_machine.specs.State.{most_steps}
use Rattle.a2_timed_keys.specs.Typed.{typed}
use Rattle.a2_film.specs.declared.chapters.Chapter.{Chapter}
use Rattle.a2_film.specs.declared.rows.Moment.{Moment}
use Rattle.a2_film.specs.Changes.{Store, changed, switch_digit, change_of}
use Rattle.a2_film.specs.Runs.{Part}
use Rattle.a2_film.specs.Film.{film_text}
use Rattle.a2_film.specs.Rows.{fields_of_parts, byte_text, switches_text, keys_text, stores_text, row_text}

-- what a row compares, besides RAM
pub record Seen : Type 0 where
  pub registers : Registers
  pub cycles : ℕ
  pub switches : Switches
  pub waiting : ℕ

abbrev pub seen_by : Moment → Seen
seen_by moment = record {
  registers = registers_of moment.regs;
  cycles = moment.cycles;
  switches = moment.switches;
  waiting = moment.waiting;
}

abbrev pub seen_of : World → Seen
seen_of world = record {
  registers = world.registers;
  cycles = world.cycles;
  switches = world.memory.devices.switches;
  waiting = length world.memory.devices.keys;
}

-- a row's text before the keys that were typed and its stores, if so many keys were typed
abbrev pub fields_between : Seen → ℕ → Seen → List ℕ
fields_between before typed after =
    let old = before.registers in
    let new = after.registers in
    fields_of_parts (hex_word new.pc) (decimal (after.cycles - before.cycles)) (byte_text 0x61 (changed old.a new.a))
    (byte_text 0x78 (changed old.x new.x)) (byte_text 0x79 (changed old.y new.y)) (byte_text 0x73 (changed old.s new.s))
    (byte_text 0x70 (changed (byte_of_flags old.flags) (byte_of_flags new.flags)))
    (switches_text (changed (switch_digit before.switches) (switch_digit after.switches)))
    (keys_text (before.waiting - (after.waiting - typed)))

-- a text is cut at its first blank
abbrev pub IsCut : List ℕ → List ℕ → List ℕ → Type 0
IsCut text front following = (text ≡ front ++ 0x20 ∷ following) × All (λ c. c ≢ 0x20) front

-- where the bytes below page 1 end that a call of a service may change: the line of GETLN, or the mask of characters
abbrev pub low_end : Service → ℕ
low_end service = if reach service 0x2FF then 0x300 else 0x33

-- how many bytes rows have room for, and up to how many there is room for another row
abbrev pub rows_room : ℕ
rows_room = 25712

abbrev pub most_kept : ℕ
most_kept = 1024

-- the address after the last of these stores, or the given one if there are none
abbrev pub next_following : ℕ → List Store → ℕ
next_following next [] = next
next_following next (store ∷ stores) = next_following (store.0 + 1) stores

-- the text of these stores is after a row, if a byte at the first number needs no m; after it, a byte at the second number needs
-- none
abbrev pub Appends : List ℕ → ℕ → List Store → List ℕ → ℕ → Type 0
Appends row next stores new last = (new ≡ row ++ stores_text next stores) × (last ≡ next_following next stores)

-- the byte at an address, from bytes that begin at another
abbrev pub from_address : ℕ → List ℕ → ℕ → ℕ
from_address first bytes a = slice_index bytes (a - first)

-- what a film shows of a run from a step on, if it has at most so many steps
abbrev pub Rest : Type 0
Rest = ℕ → Part

-- a row before those of a part
abbrev pub with_row : List ℕ → Part → Part
with_row row part = record part { rows = row ++ part.rows }

-- a part without rows
abbrev pub only : Cause → Part
only cause = record { rows = []; cause = cause }

-- a step was executed between two worlds, and so many keys were typed after it: a film shows its row, and what it shows after it
pub record IsFilmStep (before after : World) (was is : Rest) (count : ℕ) : Type 0 where
  pub code : Code
  pub keys : List ℕ
  pub count_is : count ≡ length keys
  pub world_is : after ≡ typed keys (next code before)
  pub row : (n : ℕ) → was (suc n) ≡ with_row (row_text (change_of before keys after)) (is n)

-- the run is at its end, and nothing was done
pub record IsOver (before after : World) (was is : Rest) : Type 0 where
  pub world_is : after ≡ before
  pub none : (n : ℕ) → was n ≡ only (is 0).cause

abbrev pub IsStepOrOver : World → World → Rest → Rest → Option ℕ → Type 0
IsStepOrOver before after was is (Some count) = IsFilmStep before after was is count
IsStepOrOver before after was is None = IsOver before after was is

-- a step was executed, and its row is after the others; or the run is at its end, and nothing was done
abbrev pub FilmsStep : Rest → Rest → List ℕ → List ℕ → Bool → Type 0
FilmsStep was is rows after true = (row : List ℕ) × (after ≡ rows ++ row) × ((n : ℕ) → was (suc n) ≡ with_row row (is n))
FilmsStep was is rows after false = (after ≡ rows) × ((n : ℕ) → was n ≡ only (is 0).cause)

-- a front of the rows was written, and the others are kept; or a write failed after a front
abbrev pub HandsOn : {T E : Type 0} → Taker → Taker → List ℕ → List ℕ → Result T E → Type 0
HandsOn a b rows kept (Ok _) = (sent : List ℕ) × (rows ≡ sent ++ kept) × Sends a b sent
HandsOn a b rows kept (Err _) = Breaks a b rows

-- the cause that forbids the next step of a machine in a world, after so many steps
unfoldable pub cause_here : Code → World → ℕ → Option Cause
cause_here code world steps = stuck code world otherwise error_if (nat_le most_steps steps) Limit

-- what a film shows of a machine's run
abbrev pub rest_of : Code → World → ℕ → Rest
rest_of code world steps zero = only (unwrap_or (cause_here code world steps) Limit)
rest_of code world steps (suc n) =
    elim (cause_here code world steps) as (λ _. Part) [
      | Some cause ↦ only cause
      | None ↦ with_row (row_text (change_of world [] (next code world))) (rest_of code (next code world) (suc steps) n)
    ]

-- a film with the lines of a text and a program, which begins in a world after so many steps and shows a part of a run
pub record IsFilm (text title : List ℕ) (chapters : List Chapter) (free : Bool) (program : Assembled) (steps : ℕ) (start : World)
    (part : Part) (cause : Cause) (output : List ℕ) : Type 0 where
  pub cause_is : cause ≡ part.cause
  pub output_is : output ≡ film_text title chapters text free program steps start part

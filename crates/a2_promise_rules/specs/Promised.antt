-- What it means that a routine of a source text keeps what the text promises for it, in every world of bytes. This
-- project's own.
use Rattle.std.specs.Prelude.{◌≡◌, ℕ, Bool, ◌||◌, List, [], ◌∷◌, map, codes, if◌then◌else◌}
use Rattle.std.specs.List.{list_any}
use Rattle.a2_text.specs.Lines.{lines}
use Rattle.a2_text.specs.Signs.{sign as code}
use Rattle.a2_text.specs.Words.{after_blanks, first_word}
use Rattle.a2_hex.specs.Images.{held}
use Rattle.a2_syntax.specs.declared.fault.Fault.{Fault}
use Rattle.a2_asm.specs.Assembled.{Assembled}
use Rattle.a2_services.specs.World.{World}
use Rattle.a2_run.specs.Meaning.{IsProgramOf, IsRefused}
use Rattle.a2_promise.specs.declared.promises.Promise.{Promise}
use Rattle.a2_promise.specs.Grammar.{is_name_among}
use Rattle.a2_promise.specs.PromisedTerms.{Terms, IsPromisedBy, IsPromise, begins_with, text_after_marker}
use Rattle.a2_promise_certify.specs.Kept.{IsRequired}
use Rattle.a2_promise_certify.specs.States.{Enters}
use Rattle.a2_promise_rules.specs.Typed.{KeepsWithKeys, keys_of, laid_with_keys}
use Rattle.a2_promise_rules.specs.Worlds.{OnlyBytes}

-- the first words of a line after ;: that states something about a run; docs/manual/class.md describes these lines
abbrev pub run_words : List (List ℕ)
run_words =
    map codes ("case" ∷ "keys" ∷ "limit" ∷ "call" ∷ "screen" ∷ "mem" ∷ "reg" ∷ "stop" ∷ "stops" ∷ "cycles" ∷ "bytes" ∷ "must" ∷ [])

abbrev pub is_of_run : List ℕ → Bool
is_of_run text = begins_with (code "|") (after_blanks text) || is_name_among run_words (first_word text)

-- the lines of a text as a routine's promise is read from them: a line that states something about a run counts as
-- blank
abbrev pub lines_of_routines : List ℕ → List (List ℕ)
lines_of_routines text = map (λ line. if list_any is_of_run (text_after_marker (after_blanks line)) then [] else line) (lines text)

-- in a world of bytes the routine of a promise is entered, the keys that it takes are waiting, and the world is as the
-- promise requires
pub record IsEntered (program : Assembled) (promise : Promise) (world : World) : Type 0 where
  pub bytes : OnlyBytes world
  pub enters : Enters (laid_with_keys (held program.image) promise.address (keys_of promise)) world
  pub required : IsRequired promise world

-- A program keeps a promise: in each such world, whatever else memory and registers hold, the promise is kept within
-- some number of steps, and all keys are taken.
abbrev pub KeepsPromise : Assembled → Promise → Type 0
KeepsPromise program promise = (world : World) → IsEntered program promise world → (limit : ℕ) × KeepsWithKeys promise limit world

-- The lines of a text promise something for the routine with a label, and promise no printed text. For each promise
-- that states this, there is a world to which it applies, and the program keeps the promise.
pub record KeepsStated (text label : List ℕ) (program : Assembled) : Type 0 where
  pub above : ℕ
  pub terms : Terms
  pub told : IsPromisedBy (lines_of_routines text) program.names above label terms
  pub prints : terms.prints ≡ []
  pub met : (promise : Promise) → IsPromise promise terms → (world : World) × IsEntered program promise world
  pub kept : (promise : Promise) → IsPromise promise terms → KeepsPromise program promise

-- a text has no errors, and its program keeps what is promised for the routine with this label
pub record IsProved (text label : List ℕ) : Type 0 where
  pub accepted : (fault : Fault) → IsRefused text fault → ⊥
  pub kept : (program : Assembled) → IsProgramOf text program → KeepsStated text label program

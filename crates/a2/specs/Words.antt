-- The arguments of the command line: what they ask for, and which are rejected. This project's profile.
use Rattle.std.specs.Prelude.{◌≡◌, ◌≢◌, ◌⊎◌, ℕ, ◌+◌, ◌<◌, ◌≤◌, Bool, true, false, List, [], codes, length, Option, Some, None, option_map, Result, Ok, Err, IfOk, IfErr, IsTrue, nat_eq, slice_get}
use Rattle.std.specs.List.{starts_with}
use Rattle.std.specs.Str.Parse.{digits_value}
use Rattle.clap.specs.Words.{Row, Text, fault_of, first_of, one_of, subcommand_of}
use Rattle.a2_bus.specs.KeyText.{SpellsKeys}
use Rattle.a2_run.specs.declared.Options.{Options}
use Rattle.a2_run.specs.declared.fault.RunFault.{RunFault}
use Rattle.a2_run.specs.Limits.{IsStepLimit, default_steps}
use Rattle.a2_run.specs.Status.{fault_status}
use Rattle.a2_host.specs.declared.HostArgumentsFault.{HostArgumentsFault}
use Rattle.a2_host.specs.declared.HostArgumentsFault.TheVariants as host
use Rattle.a2.specs.declared.words.Order.{Order}
use Rattle.a2.specs.declared.words.Order.TheVariants.{Asm, Mon, Debug, Run}
use Rattle.a2.specs.declared.words.RunOrder.{RunOrder}
use Rattle.a2.specs.declared.words.WordsFault.{WordsFault}
use Rattle.a2.specs.declared.words.WordsFault.TheVariants.{Words, Keys, Memory}
use Rattle.a2.specs.Grammar.{grammar}

-- the step limit: the default without the option; with it, the number that its value spells, or bad arguments if it spells none
abbrev pub SaysLimit : Option (List ℕ) → Result ℕ WordsFault → Type 0
SaysLimit None (Ok limit) = limit ≡ default_steps
SaysLimit None (Err fault) = ⊥
SaysLimit (Some word) (Ok limit) = IsStepLimit word × (limit ≡ digits_value 10 word)
SaysLimit (Some word) (Err fault) = ¬ (IsStepLimit word) × (fault ≡ Words)

-- the keys that are waiting: none without the option; with it, those that its value spells, or bad keys if it spells none or
-- more than fit
abbrev pub SaysKeys : Option (List ℕ) → Result (List ℕ) WordsFault → Type 0
SaysKeys None (Ok keys) = keys ≡ []
SaysKeys None (Err fault) = ⊥
SaysKeys (Some text) (Ok keys) = SpellsKeys text keys × (length keys ≤ 4096)
SaysKeys (Some text) (Err fault) = ((keys : List ℕ) → SpellsKeys text keys → 4096 < length keys) × (fault ≡ Keys)

-- a flag is on if its value is true, and off if its value is false or missing
pub record IsFlag (value : Option (List ℕ)) (flag : Bool) : Type 0 where
  pub on : value ≡ Some (codes "true") → flag ≡ true
  pub off : value ≡ Some (codes "false") → flag ≡ false
  pub absent : value ≡ None → flag ≡ false

-- an argument is `--keys`, and the next one begins with `-`
abbrev pub AreLooseKeys : Text → Text → Type 0
AreLooseKeys option value = (option ≡ codes "--keys") × IsTrue (starts_with nat_eq value (codes "-"))

-- two such arguments occur, one after the other
pub record HasLooseKeys (words : List Text) : Type 0 where
  pub at : ℕ
  pub option : Text
  pub value : Text
  pub option_is : slice_get words at ≡ Some option
  pub value_is : slice_get words (at + 1) ≡ Some value
  pub are : AreLooseKeys option value

-- a required argument is given
abbrev pub Stands : Text → List Row → Type 0
Stands name values = first_of name values ≢ None

-- the arguments of `run` are valid: a file, a valid limit if the option is given, and no loose keys
pub record IsWholeRun (words : List Text) (values : List Row) : Type 0 where
  pub file : Stands (codes "file") values
  pub most : ℕ
  pub limit : SaysLimit (first_of (codes "limit") values) (Ok most)
  pub keys : ¬ (HasLooseKeys words)

-- the arguments after a subcommand's name are valid, apart from the keys
abbrev pub IsWhole : List Text → Text → List Row → Type 0
IsWhole words name values = ((name ≡ codes "asm") × Stands (codes "file") values)
    ⊎ ((name ≡ codes "mon") × Stands (codes "file") values)
    ⊎ ((name ≡ codes "debug") × Stands (codes "file") values × Stands (codes "script") values)
    ⊎ ((name ≡ codes "run") × IsWholeRun words values)

-- the arguments of `run` are rejected: no file is named, or the limit is not valid, or otherwise the keys are not valid
abbrev pub RefusesRun : List Row → WordsFault → Type 0
RefusesRun values Words = (Stands (codes "file") values → (most : ℕ) → SaysLimit (first_of (codes "limit") values) (Ok most) → ⊥)
RefusesRun values Keys = Stands (codes "file") values × ((most : ℕ) × SaysLimit (first_of (codes "limit") values) (Ok most))
    × SaysKeys (first_of (codes "keys") values) (Err Keys)
RefusesRun values Memory = ⊥

-- what valid arguments of `run` ask for
pub record IsRunOrder (values : List Row) (order : RunOrder) : Type 0 where
  pub named : order.source ≢ None
  pub file : option_map (λ name. name.now) order.source ≡ first_of (codes "file") values
  pub limit : SaysLimit (first_of (codes "limit") values) (Ok order.limit)
  pub keys : SaysKeys (first_of (codes "keys") values) (Ok order.keys)
  pub free : IsFlag (one_of (codes "free") values) order.options.free
  pub attr : IsFlag (one_of (codes "attr") values) order.options.attr

-- what the arguments after a subcommand's name ask for
abbrev pub IsOrderOf : List Text → Text → List Row → Order → Type 0
IsOrderOf words name values (Asm source) = (name ≡ codes "asm") × (first_of (codes "file") values ≡ Some source.now)
IsOrderOf words name values (Mon script) = (name ≡ codes "mon") × (first_of (codes "file") values ≡ Some script.now)
IsOrderOf words name values (Debug source script) =
    (name ≡ codes "debug") × (first_of (codes "file") values ≡ Some source.now) × (first_of (codes "script") values ≡ Some script.now)
IsOrderOf words name values (Run order) = (name ≡ codes "run") × ¬ (HasLooseKeys words) × IsRunOrder values order

-- why they are rejected: they are not valid; or they are valid, for `run`, but the keys are not; or there was not enough memory
abbrev pub IsRefusalOf : List Text → Text → List Row → WordsFault → Type 0
IsRefusalOf words name values Words = ¬ (IsWhole words name values)
IsRefusalOf words name values Keys =
    (name ≡ codes "run") × IsWholeRun words values × SaysKeys (first_of (codes "keys") values) (Err Keys)
IsRefusalOf words name values Memory = Unit {0}

-- `clap` accepts the arguments, and finds this subcommand and these values
pub record IsTaken (words : List Text) (name : Text) (values : List Row) : Type 0 where
  pub clean : fault_of grammar words ≡ []
  pub found : subcommand_of grammar words ≡ Some (name, values)

-- what the arguments ask for
abbrev pub IsOrder : List Text → Order → Type 0
IsOrder words order = (name : Text) × (values : List Row) × IsTaken words name values × IsOrderOf words name values order

-- why they are rejected; arguments that `clap` does not accept are bad arguments
abbrev pub IsRefusal : List Text → WordsFault → Type 0
IsRefusal words Words = (name : Text) (values : List Row) → IsTaken words name values → IsRefusalOf words name values Words
IsRefusal words Keys = (name : Text) × (values : List Row) × IsTaken words name values × IsRefusalOf words name values Keys
IsRefusal words Memory = Unit {0}

-- every order names a file, except a run of the standard input
abbrev pub NamesFile : Order → Type 0
NamesFile (Run order) = order.source ≢ None
NamesFile _ = Unit {0}

-- a run without options: guarded, and without attribute rows
abbrev pub plain : Options
plain = record { free = false; attr = false }

-- what is done without arguments: the standard input is run
abbrev pub plain_run : RunOrder
plain_run = record { source = None; keys = []; limit = default_steps; options = plain }

-- what arguments ask for; the first of them is the program's name
pub record Asks (words : List Text) (asked : Result Order WordsFault) : Type 0 where
  pub without : length words ≤ 1 → asked ≡ Ok (Run plain_run)
  pub order : 1 < length words → IfOk asked (IsOrder words)
  pub refusal : 1 < length words → IfErr asked (IsRefusal words)

-- the error of arguments that the host could not give: those that are not text are bad arguments
abbrev pub of_host : HostArgumentsFault → WordsFault
of_host host.NotText = Words
of_host host.Memory = Memory

-- the text that is reported for rejected arguments
abbrev pub text_of_words : WordsFault → List ℕ
text_of_words Words = codes "BAD WORDS"
text_of_words Keys = codes "BAD KEYS"
text_of_words Memory = codes "NO MEMORY"

-- the exit status for rejected arguments
abbrev pub status_of_words : WordsFault → ℕ
status_of_words Words = 2
status_of_words Keys = 2
status_of_words Memory = 5

-- the exit status of an answer that is not a run
abbrev pub done_status : Result (Unit {0}) RunFault → ℕ
done_status (Ok _) = 0
done_status (Err fault) = fault_status fault

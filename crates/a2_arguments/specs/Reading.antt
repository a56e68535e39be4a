-- How a list of words reads, as a command's options and files. This project's profile.
use Rattle.std.specs.Prelude.{◌≡◌, ◌&&◌, ◌||◌, ℕ, Bool, true, false, not, List, [], ◌∷◌, ◌++◌, length, nat_lt, Option, Some, None, Result, Ok, Err, is_some, if◌then◌else◌}
use Rattle.std.specs.List.{before_first}
use Rattle.std.specs.Str.{bytes_eq}
use Rattle.a2_arguments.specs.declared.command.OptionRow.{OptionRow}
use Rattle.a2_arguments.specs.declared.command.Command.{Command}
use Rattle.a2_arguments.specs.declared.command.Value.{Value}
use Rattle.a2_arguments.specs.declared.command.Value.TheVariants.{Flag}
use Rattle.a2_arguments.specs.declared.fault.ArgumentFault.{ArgumentFault}
use Rattle.a2_arguments.specs.declared.fault.ArgumentFault.TheVariants as fault
use Rattle.a2_arguments.specs.Found.{OneGiven, Found, first_given}
use Rattle.a2_arguments.specs.Values.{takes_value}
use Rattle.a2_arguments.specs.Words.{is_file, is_end, is_equals, attached}

-- why words are not the arguments of a command
pub data Why : Type 0 where
  -- an option that the command does not have
  unknown : List ℕ → Why
  -- an option that is given again, and may not be
  repeated : List ℕ → Why
  -- an option without the value that it needs
  missing : List ℕ → Why
  -- a flag with a value
  needless : List ℕ → List ℕ → Why
  -- an option with a value that it does not take
  misfit : List ℕ → List ℕ → Why
  -- the first file that is too many
  too_many : List ℕ → Why
  too_few : Why

-- what the words so far give; the option whose value is the next word; whether all words ahead are files
pub record State : Type 0 where
  pub found : Found
  pub waiting : Option OptionRow
  pub ended : Bool

abbrev pub start : State
start = record { found = record { options = []; files = [] }; waiting = None; ended = false }

-- the first row of a name
abbrev pub row_of : List OptionRow → List ℕ → Option OptionRow
row_of [] name = None
row_of (row ∷ rows) name = if bytes_eq row.name.now name then Some row else row_of rows name

abbrev pub is_flag : Value → Bool
is_flag Flag = true
is_flag _ = false

abbrev pub add_given : OneGiven → State → State
add_given one state = record {
  found = record { options = state.found.options ++ one ∷ []; files = state.found.files };
  waiting = None;
  ended = state.ended;
}

abbrev pub add_file : List ℕ → State → State
add_file word state = record {
  found = record { options = state.found.options; files = state.found.files ++ word ∷ [] };
  waiting = state.waiting;
  ended = state.ended;
}

-- a file, of which there may be so many
unfoldable pub with_file : ℕ → List ℕ → State → Result State Why
with_file most word state = if nat_lt (length state.found.files) most then Ok (add_file word state) else Err (too_many word)

abbrev pub checked : OptionRow → List ℕ → Option (Option ℕ) → State → Result State Why
checked row value None state = Err (misfit row.name.now value)
checked row value (Some number) state = Ok (add_given (record { name = row.name.now; value = value; number = number }) state)

-- an option with its value
unfoldable pub with_value : OptionRow → List ℕ → State → Result State Why
with_value row value state = checked row value (takes_value row.value value) state

-- a flag
unfoldable pub with_flag : OptionRow → Option (List ℕ) → State → Result State Why
with_flag row None state = Ok (add_given (record { name = row.name.now; value = []; number = None }) state)
with_flag row (Some value) state = Err (needless row.name.now value)

abbrev pub with_valued : OptionRow → Option (List ℕ) → State → Result State Why
with_valued row None state = Ok (record { found = state.found; waiting = Some row; ended = state.ended })
with_valued row (Some value) state = with_value row value state

-- an option of this row: its value follows its =, or is the next word
unfoldable pub with_row : OptionRow → Option (List ℕ) → State → Result State Why
with_row row value state = if is_flag row.value then with_flag row value state else with_valued row value state

abbrev pub by_row : List ℕ → Option OptionRow → Option (List ℕ) → State → Result State Why
by_row name None value state = Err (unknown name)
by_row name (Some row) value state =
    if not row.repeat && is_some (first_given row.name.now state.found.options) then Err (repeated row.name.now) else with_row row value state

-- a word that begins with -
unfoldable pub with_option : List OptionRow → List ℕ → State → Result State Why
with_option rows word state = by_row (before_first is_equals word) (row_of rows (before_first is_equals word)) (attached word) state

abbrev pub other_word : Command → List ℕ → State → Result State Why
other_word command word state =
    if state.ended || is_file word then with_file command.files.most word state
    else if is_end word then Ok (record { found = state.found; waiting = state.waiting; ended = true })
    else with_option command.options.now word state

abbrev pub by_waiting : Option OptionRow → Command → List ℕ → State → Result State Why
by_waiting (Some row) command word state = with_value row word state
by_waiting None command word state = other_word command word state

-- the next word is the value of an option, a file, the end of the options, or an option
unfoldable pub step : Command → List ℕ → State → Result State Why
step command word state = by_waiting state.waiting command word state

abbrev pub enough : ℕ → Found → Result Found Why
enough least found = if nat_lt (length found.files) least then Err too_few else Ok found

abbrev pub by_last : Option OptionRow → ℕ → State → Result Found Why
by_last (Some row) least state = Err (missing row.name.now)
by_last None least state = enough least state.found

-- the end of the words
unfoldable pub finished : ℕ → State → Result Found Why
finished least state = by_last state.waiting least state

abbrev pub then_read : Result State Why → (State → Result Found Why) → Result Found Why
then_read (Ok next) read = read next
then_read (Err why) read = Err why

abbrev pub reading_from : Command → State → List (List ℕ) → Result Found Why
reading_from command state [] = finished command.files.least state
reading_from command state (word ∷ rest) = then_read (step command word state) (λ next. reading_from command next rest)

-- what these words give, or the first fault
abbrev pub reading : Command → List (List ℕ) → Result Found Why
reading command words = reading_from command start words

-- a fault is what reading gives, unless memory ran out
abbrev pub Fails : {T : Type 0} → ArgumentFault → Result T Why → Type 0
Fails (fault.Unknown option) expected = expected ≡ Err (unknown option.now)
Fails (fault.Repeated option) expected = expected ≡ Err (repeated option.now)
Fails (fault.Missing option) expected = expected ≡ Err (missing option.now)
Fails (fault.Needless option value) expected = expected ≡ Err (needless option.now value.now)
Fails (fault.Misfit row value) expected = expected ≡ Err (misfit row.name.now value.now)
Fails (fault.TooMany file) expected = expected ≡ Err (too_many file.now)
Fails fault.TooFew expected = expected ≡ Err too_few
Fails fault.Memory expected = Unit {0}

-- a function that returns a value, or changes one, does what reading says
abbrev pub Gives : {X Y : Type 0} → (X → Y) → Result X ArgumentFault → Result Y Why → Type 0
Gives view (Ok x) expected = expected ≡ Ok (view x)
Gives view (Err e) expected = Fails e expected

abbrev pub Takes : {X Y : Type 0} → Y → Result X ArgumentFault → Result Y Why → Type 0
Takes after (Ok _) expected = expected ≡ Ok after
Takes after (Err e) expected = Fails e expected

-- What the program does with a text from an input, with files, and with arguments. This project's profile.
use Rattle.std.specs.Prelude.{◌≡◌, ◌⊎◌, ℕ, ◌≤◌, List, [], Result, Err, IfSome, MatchOption, MatchResult, true}
use Rattle.a2_stream.specs.Stream.{Giver, Taker, Sends, TakesAtMost, count_after}
use Rattle.a2_machine.specs.declared.causes.Cause.{Cause}
use Rattle.a2_run.specs.declared.Options.{Options}
use Rattle.a2_run.specs.declared.fault.RunFault.{RunFault}
use Rattle.a2_run.specs.declared.fault.RunFault.TheVariants.{Read}
use Rattle.a2_run.specs.Answers.{Answers, LeavesBehind, OfSource, NothingSent, RestsOnTexts, is_read_fault, is_write_fault}
use Rattle.a2_run.specs.Meaning.{IsRefused, IsRun, AreObjectLines}
use Rattle.a2_run.specs.Status.{status_of}
use Rattle.a2_scripts.specs.Scripts.{IsScriptError, IsMonText, OfScript}
use Rattle.a2_scripts.specs.DebugScripts.{IsDebugError, IsDebugText, ReadsFail}
use Rattle.a2_host.specs.ErrorLines.{ReportsLine}
use Rattle.a2_host.specs.Shelves.{ShelfState, Opens}
use Rattle.a2.specs.declared.words.Order.{Order}
use Rattle.a2.specs.declared.words.Order.TheVariants.{Asm, Mon, Debug, Run}
use Rattle.a2.specs.declared.words.RunOrder.{RunOrder}
use Rattle.a2.specs.declared.words.WordsFault.{WordsFault}
use Rattle.a2.specs.Telling.{ReportsFault}
use Rattle.a2.specs.Words.{done_status, status_of_words, text_of_words}

-- The text that an input gave was processed. The output and the answer are those of its meaning: the text either has an error,
-- or gives a value with its output. At most 65,537 bytes were read, and all bytes up to there unless a read failed or there was
-- not enough memory. An error other than a failed write means that nothing was written. A read error or a write error is
-- answered exactly if such a call failed.
pub record AnswersInput {T : Type 0} (refuses : List ℕ → RunFault → Type 0) (gives : List ℕ → T → List ℕ → Type 0)
    (input left : Giver) (old new : Taker) (answer : Result T RunFault) : Type 0 where
  pub meaning : IfSome input.bytes (λ text. Answers (refuses text) (gives text) old new answer)
  pub front : TakesAtMost 65537 input left
  pub through : RestsOnTexts answer → LeavesBehind 65537 input left
  pub silent : NothingSent old new answer
  pub reader : left.failures ≡ count_after (is_read_fault answer) input.failures
  pub writer : new.failures ≡ count_after (is_write_fault answer) old.failures

-- a source was run with these keys, this limit and these options; its object lines were written; the Monitor lines of a script
-- were answered
abbrev pub RunsInput : List ℕ → ℕ → Options → Giver → Giver → Taker → Taker → Result Cause RunFault → Type 0
RunsInput keys limit options = AnswersInput (λ text. OfSource (IsRefused text)) (λ text. IsRun text keys limit options)

abbrev pub AssemblesInput : Giver → Giver → Taker → Taker → Result (Unit {0}) RunFault → Type 0
AssemblesInput = AnswersInput (λ text. OfSource (IsRefused text)) (λ text _. AreObjectLines text)

abbrev pub AnswersLines : Giver → Giver → Taker → Taker → Result (Unit {0}) RunFault → Type 0
AnswersLines = AnswersInput (λ text. OfScript (IsScriptError text)) (λ text _. IsMonText text)

-- the source from one input was debugged with the commands from another
pub record DebugsInputs (source source' script script' : Giver) (old new : Taker) (answer : Result (Unit {0}) RunFault) : Type 0 where
  pub meaning : IfSome source.bytes (λ text. IfSome script.bytes (λ lines.
      Answers (IsDebugError text lines) (λ _. IsDebugText text lines) old new answer))
  pub fronts : TakesAtMost 65537 source source' × TakesAtMost 65537 script script'
  pub through : RestsOnTexts answer → LeavesBehind 65537 source source' × LeavesBehind 65537 script script'
  pub silent : NothingSent old new answer
  pub readers : ReadsFail (is_read_fault answer) source source' script script'
  pub writer : new.failures ≡ count_after (is_write_fault answer) old.failures

-- a file could not be opened: that is a read error, and nothing was written
abbrev pub IsUnopened : {T : Type 0} → Taker → Taker → Result T RunFault → Type 0
IsUnopened old new answer = (answer ≡ Err Read) × (new ≡ old)

-- the file with this name was opened, by one call, and the text of its reader was processed by the given relation; or it could
-- not be opened
abbrev pub AnswersFile : {R T : Type 0} → (R → Giver) → (Giver → Giver → Taker → Taker → Result T RunFault → Type 0) → List ℕ
    → ShelfState → ShelfState → Taker → Taker → Result T RunFault → Type 0
AnswersFile {R} giver AnswersIt name shelf shelf' old new answer = (opened : Result R RunFault) × Opens giver name shelf shelf' opened
    × MatchResult opened (λ reader. (left : R) × AnswersIt (giver reader) (giver left) old new answer) (λ _. IsUnopened old new answer)

-- the file of a source was opened, then that of a script, and the source was debugged with the script; or one could not be
-- opened
abbrev pub DebugsFiles : {R : Type 0} → (R → Giver) → List ℕ → List ℕ → ShelfState → ShelfState → Taker → Taker
    → Result (Unit {0}) RunFault → Type 0
DebugsFiles {R} giver source script shelf shelf' old new answer = (between : ShelfState) × (opened : Result R RunFault)
    × Opens giver source shelf between opened × MatchResult opened
    (λ reader. AnswersFile giver (λ lines lines' before after answer.
    (left : R) × DebugsInputs (giver reader) (giver left) lines lines' before after answer) script between shelf' old new answer)
    (λ _. (shelf' ≡ between) × IsUnopened old new answer)

-- the source of a run: a file, or the standard input if none is named, and then no file was opened
abbrev pub RunsSource : {R : Type 0} → (R → Giver) → RunOrder → ShelfState → ShelfState → Giver → Giver → Taker → Taker → Result Cause RunFault → Type 0
RunsSource giver order shelf shelf' input input' old new answer = MatchOption order.source
    ((shelf' ≡ shelf) × RunsInput order.keys order.limit order.options input input' old new answer)
    (λ name. AnswersFile giver (RunsInput order.keys order.limit order.options) name.now shelf shelf' old new answer)

-- what was done for an order: the error of its answer, if there is one, was reported, and the status is that of the answer
abbrev pub Does : {R : Type 0} → (R → Giver) → Order → ShelfState → ShelfState → Giver → Giver → Taker → Taker → Taker → Taker → ℕ → Type 0
Does giver (Asm source) shelf shelf' input input' old new told told' status = (answer : Result (Unit {0}) RunFault)
    × (status ≡ done_status answer) × ReportsFault answer told told' × AnswersFile giver AssemblesInput source.now shelf shelf' old new answer
Does giver (Mon script) shelf shelf' input input' old new told told' status = (answer : Result (Unit {0}) RunFault)
    × (status ≡ done_status answer) × ReportsFault answer told told' × AnswersFile giver AnswersLines script.now shelf shelf' old new answer
Does giver (Debug source script) shelf shelf' input input' old new told told' status = (answer : Result (Unit {0}) RunFault)
    × (status ≡ done_status answer) × ReportsFault answer told told' × DebugsFiles giver source.now script.now shelf shelf' old new answer
Does giver (Run order) shelf shelf' input input' old new told told' status = (answer : Result Cause RunFault)
    × (status ≡ status_of answer) × ReportsFault answer told told' × RunsSource giver order shelf shelf' input input' old new answer

-- rejected arguments: no file was opened, nothing was written, the error was reported, and the status is the one of this error
pub record Refuses (fault : WordsFault) (shelf shelf' : ShelfState) (old new told told' : Taker) (status : ℕ) : Type 0 where
  pub unopened : shelf' ≡ shelf
  pub unsent : new ≡ old
  pub line : ReportsLine told told' (text_of_words fault)
  pub status_is : status ≡ status_of_words fault

-- What an exit status says about the output: with 1, 2 or 5 nothing was written; with 0 or 3 no write failed; with 4 a write
-- failed, or nothing was written.
pub record Tells (status : ℕ) (old new : Taker) : Type 0 where
  pub few : status ≤ 5
  pub refused : status ≡ 1 ⊎ status ≡ 2 ⊎ status ≡ 5 → Sends old new []
  pub done : status ≡ 0 ⊎ status ≡ 3 → new.failures ≡ old.failures
  pub failed : status ≡ 4 → (new.failures ≡ count_after true old.failures) ⊎ Sends old new []

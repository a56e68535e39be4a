-- Facts about a script of debugger lines: each line has a text, and enough of source and script is read.
use Rattle.std.specs.Prelude.{codes, IsErr}
use Rattle.std.specs.Result.{IsErrAnd}
use Rattle.std.proofs.Common.{◌≡◌, ◌≢◌, ℕ, List, ◌++◌, Option, Some, None, IfSome, Result, Ok, Err, refl, sym, ◌∙◌, subst, inl, inr}
use Rattle.a2_stream.specs.Stream.{Taker, Breaks, SendsOrBreaks}
use Rattle.a2_stream.specs.declared.WriteFault.{WriteFault}
use Rattle.a2_stream.proofs.Joined.{Sends-nil}
use Rattle.a2_syntax.specs.declared.fault.Fault.{Fault}
use Rattle.a2_syntax.specs.declared.fault.Fault.TheVariants as refusal
use Rattle.a2_text.specs.Lines.{lines}
use Rattle.a2_syntax.specs.Limits.{size_error}
use Rattle.a2_asm.specs.Assembled.{Assembled}
use Rattle.a2_debug_script.specs.declared.fault.DebugFault.{DebugFault}
use Rattle.a2_debug_script.specs.declared.fault.DebugFault.TheVariants as debug
use Rattle.a2_debug_script.specs.Stored.{Stored, NoneAbove, debugger_at_start}
use Rattle.a2_debug_script.specs.Answers.{DebugLineAnswers}
use Rattle.a2_debug_script.specs.Texts.{debug_fault_text}
use Rattle.a2_debug_script.proofs.Total.{Met, met, answered_past, never_by_write}
use Rattle.a2_run.specs.declared.fault.RunFault.{RunFault}
use Rattle.a2_run.specs.declared.fault.RunFault.TheVariants.{Source, Script, Write}
use Rattle.a2_run.specs.Answers.{read_of, Answers}
use Rattle.a2_run.specs.Meaning.{IsProgramOf}
use Rattle.a2_scripts.specs.Replies.{AnswersEach, RepliesTo, AreReplied}
use Rattle.a2_scripts.specs.Scripts.{script_fault}
use Rattle.a2_scripts.specs.DebugScripts.{Meets, IsDebugText, IsDebugError}
use Rattle.a2_run.proofs.Reading.{source_of_read, program_of_read, Answers-wider}
use Rattle.a2_scripts.proofs.Reading.{script_of_read, replies_of_read}

-- Lines

-- a debugger's keys were typed at counts up to the current one
abbrev pub IsPast : Stored → Type 0
IsPast s = NoneAbove s.count s.log

text_of_line : (line : List ℕ) (old : Stored) → IsPast old → (text : List ℕ) × (new : Stored) × Meets line old text new
text_of_line line old past = go (met line old past)
  where
    go : Met line old → (text : List ℕ) × (new : Stored) × Meets line old text new
    go (inl (text, new, is)) = (text, new, inl is)
    go (inr (why, down)) = (debug_fault_text why ++ codes "\n", old, inr (record { fault = why; refused = down; told = refl; kept = refl }))

stays_past : (line : List ℕ) (old : Stored) (text : List ℕ) (new : Stored) → Meets line old text new → IsPast old → IsPast new
stays_past line old text new (inl is) past = answered_past line old text new is past
stays_past line old text new (inr down) past = subst (λ (s : Stored). IsPast s) (sym down.kept) past

pub each_line : AnswersEach Meets IsPast
each_line = record { text = text_of_line; stays = stays_past }

pub line_done : (line : List ℕ) (old new : Stored) (a b : Taker) → DebugLineAnswers line old new a b (Ok tt) → RepliesTo Meets line old new a b (Ok tt)
line_done line old new a b (text, is, sends) = (text, inl is, sends)

pub line_broke : (line : List ℕ) (old new : Stored) (a b : Taker) → DebugLineAnswers line old new a b (Err debug.Write)
    → (text : List ℕ) × Meets line old text new × Breaks a b text
line_broke line old new a b (inl (down, same, unsent)) = absurd (never_by_write line old down)
line_broke line old new a b (inr (is, (text, answered, breaks))) = (text, inl answered, breaks)

pub line_told : (line : List ℕ) (old new : Stored) (a b c : Taker) (why : DebugFault) (answer : Result (Unit {0}) WriteFault) → why ≢ debug.Write
    → DebugLineAnswers line old new a b (Err why) → SendsOrBreaks b c answer (debug_fault_text why ++ codes "\n") → RepliesTo Meets line old new a c answer
line_told line old new a b c why answer other (inl (down, same, unsent)) sends = (
  debug_fault_text why ++ codes "\n",
  inr (record { fault = why; refused = down; told = refl; kept = same }),
  subst (λ (t : Taker). SendsOrBreaks t c answer (debug_fault_text why ++ codes "\n")) unsent sends,
)
line_told line old new a b c why answer other (inr (is, broke)) sends = absurd (other is)

-- Reading

text_of_read : (source script output : List ℕ) → IsDebugText (read_of source) (read_of script) output → IsDebugText source script output
text_of_read source script output is =
    let (fits, answers) = replies_of_read Meets (codes ">") (debugger_at_start is.program 0) script output (is.fits, is.answers) in
    record { program = is.program; is_program = program_of_read source is.program is.is_program; fits = fits; answers = answers }

refusal_of_read : (source script : List ℕ) (w : RunFault) → IsDebugError (read_of source) (read_of script) w → IsDebugError source script w
refusal_of_read source script (Source fault) p = source_of_read source fault p
refusal_of_read source script (Script fault) p = ((p.0.0, program_of_read source p.0.0 p.0.1), script_of_read script fault p.1)
refusal_of_read source script _ p = p

-- the results of a call for a source with a script
abbrev pub AreAnswers : List ℕ → List ℕ → Taker → Taker → Result (Unit {0}) RunFault → Type 0
AreAnswers source script a b r = Answers (IsDebugError source script) (λ _. IsDebugText source script) a b r

-- the meaning of what was read is the meaning of the inputs
pub debug_of_inputs : (source script : Option (List ℕ)) (text lines slice slice' : List ℕ) (a b : Taker) (r : Result (Unit {0}) RunFault)
    → IfSome source (λ input. text ≡ read_of input) → IfSome script (λ input. lines ≡ read_of input) → slice ≡ text → slice' ≡ lines
    → AreAnswers slice slice' a b r
    → IfSome source (λ s. IfSome script (λ t. AreAnswers s t a b r))
debug_of_inputs None script text lines slice slice' a b r e e' f f' p = tt
debug_of_inputs (Some source) None text lines slice slice' a b r e e' f f' p = tt
debug_of_inputs (Some source) (Some script) text lines slice slice' a b r e e' f f' p =
    Answers-wider _ _ _ _ a b r (refusal_of_read source script) (λ _ output. text_of_read source script output)
    (subst (λ (s : List ℕ). AreAnswers s (read_of script) a b r) (f ∙ e) (subst (λ (t : List ℕ). AreAnswers slice t a b r) (f' ∙ e') p))

-- The errors of the call

pub refused_script : (source script : List ℕ) (program : Assembled) (a : Taker) (fault : Fault) (why : RunFault) → IsProgramOf source program
    → (fault ≢ refusal.Memory → size_error script ≡ Some fault) → why ≡ script_fault fault → AreAnswers source script a a (Err why)
refused_script source script program a fault why is h e = subst (λ (w : RunFault). AreAnswers source script a a (Err w)) (sym e) (go fault h)
  where
    go : (f : Fault) → (f ≢ refusal.Memory → size_error script ≡ Some f) → AreAnswers source script a a (Err (script_fault f))
    go refusal.Memory told = Sends-nil a
    go _ told = (((program, is), told (λ e. cc)), Sends-nil a)

pub script_broke : (source script : List ℕ) (program : Assembled) (cut : List (List ℕ)) (old : Stored) (a b : Taker) (r : Result (Unit {0}) RunFault)
    → IsProgramOf source program → size_error script ≡ None → cut ≡ lines script → old ≡ debugger_at_start program 0
    → IsErr r → IsErrAnd r (λ why. why ≡ Write) → (output : List ℕ) × AreReplied Meets (codes ">") cut old output × Breaks a b output → AreAnswers source script a b r
script_broke source script program cut old a b (Ok value) is fits same start err why h = cc
script_broke source script program cut old a b (Err fault) is fits same start err why (output, are, breaks) =
    rw why (tt, output, record { program = program; is_program = is; fits = fits; answers = rw (same, start) at are }, breaks)

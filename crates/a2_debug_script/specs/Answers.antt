-- What a line means, and what it answers. This project's profile.
use Rattle.std.specs.Prelude.{◌≡◌, ◌≢◌, ◌⊎◌, ℕ, ◌<◌, ◌≤◌, List, [], ◌++◌, length, map, drop, Option, Some, None, Result, Ok, Err}
use Rattle.a2_stream.specs.Stream.{Taker, Sends, Breaks}
use Rattle.a2_text.specs.Bytes.{capital}
use Rattle.a2_text.specs.Words.{words, first_word, after_first_word, only_word}
use Rattle.a2_bus.specs.KeyText.{SpellsKeys}
use Rattle.a2_debug_script.specs.declared.fault.DebugFault.{DebugFault}
use Rattle.a2_debug_script.specs.declared.fault.DebugFault.TheVariants as fault
use Rattle.a2_debug_script.specs.declared.calls.Call.{Call}
use Rattle.a2_debug_script.specs.declared.calls.Call.TheVariants as call
use Rattle.a2_debug_script.specs.declared.calls.Answer.{Answer}
use Rattle.a2_debug_script.specs.declared.calls.Answer.TheVariants.{Halted, Done, Refused}
use Rattle.a2_debug_script.specs.declared.commands.Verb.{Verb}
use Rattle.a2_debug_script.specs.declared.commands.Verb.TheVariants.{Step, Go, Back, Break, Clear, TypeKeys, Screen}
use Rattle.a2_debug_script.specs.Calls.{CallDoes}
use Rattle.a2_debug_script.specs.Lines.{verb_letters, only_number, session_line, halt_line, session_picture}
use Rattle.a2_debug_script.specs.Stored.{Stored}

-- a verb and the text after it mean this call
abbrev pub MeansCall : Verb → List ℕ → Call → Type 0
MeansCall Step rest (call.Step n) = only_number (words rest) ≡ Some n
MeansCall Go rest (call.Go n) = only_number (words rest) ≡ Some n
MeansCall Back rest (call.Back n) = only_number (words rest) ≡ Some n
MeansCall Break rest (call.SetBreak word) = only_word (words rest) ≡ Some word.now
MeansCall Clear rest (call.ClearBreak word) = only_word (words rest) ≡ Some word.now
MeansCall TypeKeys rest (call.TypeKeys keys) = (0 < length rest) × SpellsKeys (drop 1 rest) keys × (length keys ≤ 4096)
MeansCall verb rest call = ⊥

-- they mean no call
abbrev pub MeansNoCall : Verb → List ℕ → Type 0
MeansNoCall verb rest = (call : Call) → MeansCall verb rest call → ⊥

-- the text of a call that succeeded and has no other answer
abbrev pub done_text : Verb → Stored → List ℕ
done_text Back new = session_line new
done_text _ new = []

-- a call that succeeded has an answer with this text
abbrev pub IsAnswerText : Verb → Answer → Stored → List ℕ → Type 0
IsAnswerText verb (Halted halt) new text = text ≡ session_line new ++ halt_line halt
IsAnswerText verb Done new text = text ≡ done_text verb new
IsAnswerText verb (Refused fault) new text = ⊥

-- the call that a verb and the text after it mean is executed, with this answer
abbrev pub IsCallAnswered : Verb → List ℕ → Stored → Answer → Stored → Type 0
IsCallAnswered verb rest old answer new = (call : Call) × MeansCall verb rest call × CallDoes old call answer new

-- the call they mean is executed; or they mean none, and nothing changes
abbrev pub IsAnswered : Verb → List ℕ → Stored → Option Answer → Stored → Type 0
IsAnswered verb rest old (Some answer) new = IsCallAnswered verb rest old answer new
IsAnswered verb rest old None new = MeansNoCall verb rest × (new ≡ old)

-- the call succeeded, and this is the text of its answer
pub record IsCallDone (verb : Verb) (rest : List ℕ) (old : Stored) (text : List ℕ) (new : Stored) : Type 0 where
  pub answer : Answer
  pub called : IsCallAnswered verb rest old answer new
  pub spelt : IsAnswerText verb answer new text

-- they mean no call, or the call is rejected
pub record IsCallRejected (verb : Verb) (rest : List ℕ) (old : Stored) (why : DebugFault) : Type 0 where
  pub cause : (MeansNoCall verb rest × (why ≡ fault.Syntax)) ⊎ IsCallAnswered verb rest old (Refused why) old

-- the first word of a line is this verb, in either case
abbrev pub IsVerb : List ℕ → Verb → Type 0
IsVerb line verb = verb_letters verb ≡ map capital (first_word line)

-- a line is executed, with this answer: nothing for a blank line, the picture for `screen`, and otherwise the answer of
-- its call
abbrev pub IsDebugAnswer : List ℕ → Stored → List ℕ → Stored → Type 0
IsDebugAnswer line old text new =
    ((first_word line ≡ []) × (text ≡ []) × (new ≡ old))
    ⊎ (IsVerb line Screen × (words (after_first_word line) ≡ []) × (text ≡ session_picture old) × (new ≡ old))
    ⊎ ((verb : Verb) × IsVerb line verb × IsCallDone verb (after_first_word line) old text new)

-- a line is rejected for this reason: it does not begin with a verb, or there is more text after `screen`, or it means
-- no call, or its call is rejected
abbrev pub IsLineRejected : List ℕ → Stored → DebugFault → Type 0
IsLineRejected line old why =
    ((first_word line ≢ []) × ((verb : Verb) → IsVerb line verb → ⊥) × (why ≡ fault.Syntax))
    ⊎ (IsVerb line Screen × (words (after_first_word line) ≢ []) × (why ≡ fault.Syntax))
    ⊎ ((verb : Verb) × (verb ≢ Screen) × IsVerb line verb × IsCallRejected verb (after_first_word line) old why)

-- the answer was sent; or the line is rejected, and nothing was changed or sent; or it was executed, and a write failed
abbrev pub DebugLineAnswers : List ℕ → Stored → Stored → Taker → Taker → Result (Unit {0}) DebugFault → Type 0
DebugLineAnswers line old new before after (Ok _) = (text : List ℕ) × IsDebugAnswer line old text new × Sends before after text
DebugLineAnswers line old new before after (Err why) =
    (IsLineRejected line old why × (new ≡ old) × (after ≡ before))
    ⊎ ((why ≡ fault.Write) × ((text : List ℕ) × IsDebugAnswer line old text new × Breaks before after text))

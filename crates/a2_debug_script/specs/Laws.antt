-- Laws about the meaning of lines and calls.
use Rattle.std.specs.Prelude.{◌≡◌, ◌⊎◌, ℕ, List}
use Rattle.a2_asm.specs.Programs.{AreAlike}
use Rattle.a2_debug_script.specs.declared.fault.DebugFault.{DebugFault}
use Rattle.a2_debug_script.specs.declared.calls.Call.{Call}
use Rattle.a2_debug_script.specs.declared.calls.Answer.{Answer}
use Rattle.a2_debug_script.specs.Stored.{Stored, NoneAbove, session_of}
use Rattle.a2_debug_script.specs.Calls.{CallDoes, Run}
use Rattle.a2_debug_script.specs.Answers.{IsDebugAnswer, IsLineRejected}

-- no key was typed at a count after the current one
abbrev pub KeysArePast : Stored → Type 0
KeysArePast s = NoneAbove s.count s.log

-- two debuggers show the same in every line; they differ only in how an image is kept, and in how many steps were ever
-- executed
pub record LookAlike (s t : Stored) : Type 0 where
  pub programs : AreAlike s.program t.program
  pub log : s.log ≡ t.log
  pub count : s.count ≡ t.count
  pub breaks : s.breaks ≡ t.breaks
  pub oldest : s.oldest ≡ t.oldest
  pub reruns : s.reruns ≡ t.reruns

-- debuggers that look alike represent the same session
abbrev pub OneSession : Type 0
OneSession = (s t : Stored) → LookAlike s t → session_of s ≡ session_of t

-- each line has an answer or an error
abbrev pub EachLineHasAnswer : Type 0
EachLineHasAnswer =
    (line : List ℕ) (old : Stored) → KeysArePast old
    → ((text : List ℕ) × (new : Stored) × IsDebugAnswer line old text new) ⊎ ((why : DebugFault) × IsLineRejected line old why)

-- afterwards, no key is typed at a count later than the current one
abbrev pub KeysStayPast : Type 0
KeysStayPast = (line text : List ℕ) (old new : Stored) → IsDebugAnswer line old text new → KeysArePast old → KeysArePast new

-- no line has both an answer and an error
abbrev pub NeverBoth : Type 0
NeverBoth =
    (line text : List ℕ) (old other new : Stored) (why : DebugFault) → LookAlike old other
    → IsDebugAnswer line old text new → IsLineRejected line other why → ⊥

-- a line has at most one answer, and the states after it look alike
abbrev pub OneAnswer : Type 0
OneAnswer =
    (line text words : List ℕ) (old other new next : Stored) → LookAlike old other
    → IsDebugAnswer line old text new → IsDebugAnswer line other words next → (text ≡ words) × LookAlike new next

-- a line has at most one error
abbrev pub OneLineError : Type 0
OneLineError =
    (line : List ℕ) (old other : Stored) (why reason : DebugFault) → LookAlike old other
    → IsLineRejected line old why → IsLineRejected line other reason → why ≡ reason

-- each call has an answer
abbrev pub EachCallHasAnswer : Type 0
EachCallHasAnswer = (call : Call) (old : Stored) → KeysArePast old → (answer : Answer) × (new : Stored) × CallDoes old call answer new

-- a call has only one answer, and the states after it look alike
abbrev pub OneCallAnswer : Type 0
OneCallAnswer =
    (call : Call) (answer also : Answer) (old other new next : Stored) → LookAlike old other
    → CallDoes old call answer new → CallDoes other call also next → (answer ≡ also) × LookAlike new next

-- each list of calls has a list of answers
abbrev pub EachListHasAnswers : Type 0
EachListHasAnswers =
    (calls : List Call) (old : Stored) → KeysArePast old
    → (answers : List Answer) × (new : Stored) × Run old calls answers new

-- a list of calls has only one list of answers, and the states after it look alike
abbrev pub OneListOfAnswers : Type 0
OneListOfAnswers =
    (calls : List Call) (answers also : List Answer) (old other new next : Stored) → LookAlike old other
    → Run old calls answers new → Run other calls also next → (answers ≡ also) × LookAlike new next

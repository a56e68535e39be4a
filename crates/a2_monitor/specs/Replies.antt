-- What a session replies to a line: its answer, or a line of text that reports its error. This project's profile.
use Rattle.std.specs.Prelude.{◌≡◌, ◌⊎◌, ℕ, List, ◌++◌, codes, Some}
use Rattle.a2_monitor.specs.declared.fault.MonFault.{MonFault}
use Rattle.a2_monitor.specs.Answers.{IsAnswered, line_error}
use Rattle.a2_monitor.specs.SessionStates.{SessionState}
use Rattle.a2_monitor.specs.Texts.{monitor_fault_text}

-- a line is rejected with a line of text, and nothing changes
pub record IsErrorReply (line : List ℕ) (old : SessionState) (text : List ℕ) (new : SessionState) : Type 0 where
  pub fault : MonFault
  pub refused : line_error line old ≡ Some fault
  pub told : text ≡ monitor_fault_text fault ++ codes "\n"
  pub kept : new ≡ old

-- the reply to a line, and the session state after it
abbrev pub IsReply : List ℕ → SessionState → List ℕ → SessionState → Type 0
IsReply line old text new = IsAnswered line old text new ⊎ IsErrorReply line old text new

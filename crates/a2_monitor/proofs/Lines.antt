-- What the command of a line does is what the line answers.
use Rattle.std.specs.Result.{IsErrAnd}
use Rattle.std.proofs.Common.{◌≡◌, ◌≢◌, ℕ, List, Some, None, Result, Ok, Err, refl, ◌∙◌}
use Rattle.a2_stream.specs.Stream.{Taker, Sends, Breaks}
use Rattle.a2_monitor.specs.declared.fault.MonFault.{MonFault}
use Rattle.a2_monitor.specs.declared.fault.MonFault.TheVariants.{Write}
use Rattle.a2_monitor.specs.Commands.{Command, command_of}
use Rattle.a2_monitor.specs.SessionStates.{SessionState, CommandDoes, command_error}
use Rattle.a2_monitor.specs.Answers.{LineAnswers, line_error}
use Rattle.a2_monitor.proofs.Replying.{refusal_is}

module _ (line : List ℕ) (old : SessionState) (command : Command) (says : command_of line ≡ Some command) where
  pub line_done : (new : SessionState) (a b : Taker) (text : List ℕ) → command_error command old.next ≡ None → CommandDoes command old text new → Sends a b text
      → LineAnswers line old new a b (Ok tt)
  line_done new a b text allowed does sends = (text, record { command = command; says = says; done = record { allowed = allowed; answers = does } }, sends)

  pub line_broke : (new : SessionState) (a b : Taker) (text : List ℕ) (r : Result (Unit {0}) MonFault) → command_error command old.next ≡ None
      → CommandDoes command old text new → Breaks a b text → IsErrAnd r (λ e. e ≡ Write) → LineAnswers line old new a b r
  line_broke new a b text (Ok x) allowed does breaks is = absurd is
  line_broke new a b text (Err fault) allowed does breaks is =
      rw is (text, record { command = command; says = says; done = record { allowed = allowed; answers = does } }, breaks)

  told : (a : Taker) (fault : MonFault) → line_error line old ≡ Some fault → fault ≢ Write → LineAnswers line old old a a (Err fault)
  told a Write refused other = absurd (other refl)
  told a fault refused other = (refused, refl, refl)

  pub line_down : (a : Taker) (fault : MonFault) (r : Result (Unit {0}) MonFault) → command_error command old.next ≡ Some fault → fault ≢ Write
      → IsErrAnd r (λ e. e ≡ fault) → LineAnswers line old old a a r
  line_down a fault (Ok x) refused other is = absurd is
  line_down a fault (Err e) refused other is = rw is (told a fault (refusal_is line old (Some command) says ∙ refused) other)

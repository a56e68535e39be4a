-- The lines of a script have answers, one after another.
use Rattle.std.specs.Prelude.{codes}
use Rattle.std.specs.Option.{unwrap_or}
use Rattle.std.proofs.Common.{◌≡◌, ◌≢◌, ℕ, List, ◌++◌, None, Result, Err, refl, sym, ap, ◌∙◌, subst, inr}
use Rattle.a2_text.specs.Lines.{lines}
use Rattle.a2_stream.specs.Stream.{Taker, SendsOrBreaks}
use Rattle.a2_stream.specs.declared.WriteFault.{WriteFault}
use Rattle.a2_syntax.specs.declared.fault.Fault.{Fault}
use Rattle.a2_syntax.specs.Limits.{size_error}
use Rattle.a2_monitor.specs.declared.fault.MonFault.{MonFault}
use Rattle.a2_monitor.specs.declared.fault.MonFault.TheVariants as fault
use Rattle.a2_monitor.specs.SessionStates.{SessionState, start_state}
use Rattle.a2_monitor.specs.Answers.{LineAnswers}
use Rattle.a2_monitor.specs.Texts.{monitor_fault_text}
use Rattle.a2_monitor.proofs.Replying.{each-reply, one-reply}
use Rattle.a2_monitor.specs.Replies.{IsReply}
use Rattle.a2_scripts.specs.Replies.{AreReplied, AnswersEach, RepliesTo}
use Rattle.a2_scripts.specs.Scripts.{IsScriptError, IsMonText}
use Rattle.a2_scripts.proofs.Replying.{all_met, all_one}

-- each line has a reply in each session
abbrev pub Always : SessionState → Type 0
Always _ = Unit {0}

pub each_line : AnswersEach IsReply Always
each_line = record { text = λ line old _. each-reply line old; stays = λ line old text new reply always. tt }

-- so all lines have replies
each-output : (lines : List (List ℕ)) (old : SessionState) → (output : List ℕ) × AreReplied IsReply (codes "*") lines old output
each-output lines old = all_met IsReply (codes "*") Always each_line lines old tt

-- a line has only one reply
reply-one : (line text words : List ℕ) (old other new next : SessionState) → old ≡ other
    → IsReply line old text new → IsReply line other words next → (text ≡ words) × (new ≡ next)
reply-one line text words old other new next same a b =
    one-reply line old new next text words a (subst (λ s. IsReply line s words next) (sym same) b)

one-output : (lines : List (List ℕ)) (old : SessionState) (output other : List ℕ) → AreReplied IsReply (codes "*") lines old output
    → AreReplied IsReply (codes "*") lines old other → output ≡ other
one-output lines old output other a b = all_one IsReply (codes "*") (λ s t. s ≡ t) reply-one lines old old output other refl a b

-- The same for a script, and for its error

pub one-script-refusal : (script : List ℕ) (f g : Fault) → IsScriptError script f → IsScriptError script g → f ≡ g
one-script-refusal script f g h k = ap (λ o. unwrap_or o f) (sym h ∙ k)

pub refused-has-none : (script output : List ℕ) (f : Fault) → IsScriptError script f → IsMonText script output → ⊥
refused-has-none script output f h text = (let fits = text.0 in cc)

pub script-output : (script : List ℕ) → size_error script ≡ None → (output : List ℕ) × IsMonText script output
script-output script h =
    let (output, are) = each-output (lines script) start_state in
    (output, (h, are))

pub one-script-output : (script output other : List ℕ) → IsMonText script output → IsMonText script other → output ≡ other
one-script-output script output other a b = one-output (lines script) start_state output other a.1 b.1

-- the error of a line is reported
pub told_line : (line : List ℕ) (old new : SessionState) (a b c : Taker) (answer : Result (Unit {0}) WriteFault) (why : MonFault) → why ≢ fault.Write
    → LineAnswers line old new a b (Err why) → SendsOrBreaks b c answer (monitor_fault_text why ++ codes "\n") → RepliesTo IsReply line old new a c answer
told_line line old new a b c answer fault.Write other answers sends = absurd (other refl)
told_line line old new a b c answer why other (h, kept, unsent) sends = (
  monitor_fault_text why ++ codes "\n",
  inr (record { fault = why; refused = h; told = refl; kept = kept }),
  subst (λ t. SendsOrBreaks t c answer (monitor_fault_text why ++ codes "\n")) unsent sends,
)

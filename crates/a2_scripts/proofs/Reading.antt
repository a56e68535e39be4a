-- Enough of a script is read: a front that shows that the script is too long means the same as the whole script.
use Rattle.std.proofs.Common.{◌≡◌, ℕ, List, None, sym, ◌∙◌}
use Rattle.a2_text.specs.Lines.{lines}
use Rattle.a2_syntax.specs.declared.fault.Fault.{Fault}
use Rattle.a2_syntax.specs.Limits.{size_error}
use Rattle.a2_run.specs.declared.fault.RunFault.{RunFault}
use Rattle.a2_run.specs.declared.fault.RunFault.TheVariants.{Script}
use Rattle.a2_run.specs.Answers.{read_of}
use Rattle.a2_run.proofs.Reading.{of_read}
use Rattle.a2_scripts.specs.Replies.{AreReplied}
use Rattle.a2_scripts.specs.Scripts.{IsScriptError, OfScript}

pub script_of_read : (script : List ℕ) (fault : Fault) → IsScriptError (read_of script) fault → IsScriptError script fault
script_of_read script fault = of_read (λ script. IsScriptError script fault) script (λ front all h. all ∙ sym front ∙ h)

-- the lines of a script within the limits, with their replies
pub replies_of_read : {S : Type 0} (Meets : List ℕ → S → List ℕ → S → Type 0) (mark : List ℕ) (old : S) (script output : List ℕ)
    → (size_error (read_of script) ≡ None) × AreReplied Meets mark (lines (read_of script)) old output → (size_error script ≡ None) × AreReplied Meets mark (lines script) old output
replies_of_read Meets mark old script output =
    of_read (λ script. (size_error script ≡ None) × AreReplied Meets mark (lines script) old output) script (λ front _ h. let fits = h.0 in cc)

pub OfScript-wider : {refuses refuses' : Fault → Type 0} → ((f : Fault) → refuses f → refuses' f) → (w : RunFault) → OfScript refuses w → OfScript refuses' w
OfScript-wider f (Script fault) p = f fault p
OfScript-wider f _ p = p

-- A fault of a source is its error, or lack of memory.
use Rattle.std.specs.Prelude.{◌≡◌, ◌≢◌, ℕ, List}
use Rattle.std.proofs.Common.{sym, subst}
use Rattle.a2_syntax.specs.declared.fault.Fault.{Fault}
use Rattle.a2_syntax.specs.declared.fault.Fault.TheVariants as refusal
use Rattle.a2_run.specs.declared.fault.RunFault.{RunFault}
use Rattle.a2_run.specs.Meaning.{IsRefused}
use Rattle.a2_run.specs.Started.{source_fault, RefusesText}

refuses : (text : List ℕ) (fault : Fault) → (fault ≢ refusal.Memory → IsRefused text fault) → RefusesText text (source_fault fault)
refuses text refusal.Memory h = tt
refuses text _ h = h (λ e. cc)

pub refuses-text : (text : List ℕ) (fault : Fault) (given : RunFault) → given ≡ source_fault fault → (fault ≢ refusal.Memory → IsRefused text fault) → RefusesText text given
refuses-text text fault given e h = subst (λ f. RefusesText text f) (sym e) (refuses text fault h)

use Rattle.std.proofs.Common.{sym, subst, List}
use Rattle.a2_profile.specs.declared.walk.Totals.{Totals}
use Rattle.a2_profile.specs.Totals.{AreSummed}
use Rattle.a2_profile.proofs.JoinLaws.{no_totals-summed}
use Rattle.a2_profile.proofs.walk.RoutineProfile.new.Goals as goal

pub invariant_of-result : goal.invariant_of-result
invariant_of-result g c = subst (λ (totals : List Totals). AreSummed totals 0 0) (sym c.in_ok-no_totals.ensures) no_totals-summed

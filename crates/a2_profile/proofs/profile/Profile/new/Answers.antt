use Rattle.std.proofs.Common.{sym, subst, List}
use Rattle.a2_profile.specs.declared.profile.Count.{Count}
use Rattle.a2_profile.specs.Counts.{AreSummed}
use Rattle.a2_profile.proofs.CountLaws.{no_counts-summed}
use Rattle.a2_profile.proofs.profile.Profile.new.Goals as goal

pub invariant_of-result : goal.invariant_of-result
invariant_of-result g c = subst (λ (counts : List Count). AreSummed counts 0 0) (sym c.in_ok-no_counts.ensures) no_counts-summed

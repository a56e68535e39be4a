use Rattle.a2_profile.proofs.WalkLaws.{empty-walk}
use Rattle.a2_profile.proofs.walk.Walk.empty.Goals as goal

pub invariant_of-result : goal.invariant_of-result
invariant_of-result g c = empty-walk _ _ _ c.new.ensures c.in_ok-no_totals.ensures c.in_ok-no_openings.ensures

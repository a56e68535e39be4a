use Rattle.std.proofs.lemmas.Result.{IfOk-weaker}
use Rattle.a2_profile.proofs.walk.no_openings.Goals as goal

pub returns : goal.returns
returns g c = IfOk-weaker c.vec.result _ _ (λ counts made. made (λ count same. same)) c.vec.ensures.items_if_clones_equal

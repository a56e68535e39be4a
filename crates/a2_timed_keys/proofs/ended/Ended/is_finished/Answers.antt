use Rattle.std.proofs.Common.{subst}
use Rattle.a2_timed_keys.specs.Finished.{Finished, IsFinished}
use Rattle.a2_timed_keys.proofs.EndLaws.{typed_ended_of}
use Rattle.a2_timed_keys.proofs.ended.Ended.is_finished.Goals as goal

pub returns : goal.returns
returns g c =
    subst (λ (f : Finished). IsFinished f) c.self.view_is
    (typed_ended_of _ _ _ _ _ _ _ c.is_sound.ensures c.self.invariant.0)

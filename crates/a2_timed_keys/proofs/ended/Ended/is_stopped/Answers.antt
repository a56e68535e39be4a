use Rattle.std.proofs.Common.{◌<◌, subst}
use Rattle.a2_timed_keys.specs.Finished.{Finished, IsStopped}
use Rattle.a2_timed_keys.proofs.Again.{few_steps}
use Rattle.a2_timed_keys.proofs.ended.Ended.is_stopped.Goals as goal

pub returns : goal.returns
returns g c =
    let stopped : IsStopped c.args.self.now = subst (λ (f : Finished). IsStopped f) c.self.view_is c.self.invariant.0 in record {
      stopped = stopped;
      few = few_steps c.args.self.now stopped (subst (λ (f : Finished). f.limit < 4294967296) c.self.view_is c.self.invariant.2);
    }

use Rattle.std.proofs.Common.{◌<◌, ◌-◌}
use Rattle.a2_history.proofs.checkpoints.stride_at.Given as goal

abbrev pub invariant-loop-stride : goal.invariant-loop-stride
invariant-loop-stride l = 0 < l.stride

abbrev pub decreases-loop-stride : goal.decreases-loop-stride
decreases-loop-stride l = l.position - l.stride

use Rattle.std.proofs.Common.{◌≡◌, ◌+◌, ◌-◌, ◌*◌, ◌/◌}
use Rattle.a2_debug_script.proofs.Runs.{IsOnTheWay}
use Rattle.a2_debug_script.proofs.debugger.Debugger.execute_steps.Given as goal

abbrev pub invariant-loop-next : goal.invariant-loop-next
invariant-loop-next g l = record {
  way : IsOnTheWay l.breaks l.n l.fn.self l.self;
  next : l.next ≡ 1024 * (l.self.count / 1024) + 1024;
}

abbrev pub decreases-loop-next : goal.decreases-loop-next
decreases-loop-next g l = l.end - l.next

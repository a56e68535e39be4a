use Rattle.std.proofs.Common.{◌-◌}
use Rattle.a2_machine.specs.State.{code_of, world_of_state}
use Rattle.a2_timed_keys.specs.Typed.{IsRunning, AreCopies}
use Rattle.a2_timed_keys.proofs.ended.run_keeping.Given as goal

-- where the run is, and which copies were kept
abbrev pub invariant-loop-made : goal.invariant-loop-made
invariant-loop-made g l = record {
  at : IsRunning (code_of l.fn.machine.state) (world_of_state l.fn.machine.state) l.typed l.limit l.made l.machine;
  copies : AreCopies (code_of l.fn.machine.state) (world_of_state l.fn.machine.state) l.typed l.earlier.older l.earlier.newer;
}

abbrev pub decreases-loop-made : goal.decreases-loop-made
decreases-loop-made g l = l.limit - l.made

use Rattle.std.proofs.Common.{◌-◌}
use Rattle.a2_services.specs.World.{World}
use Rattle.a2_machine.specs.State.{code_of}
use Rattle.a2_timed_keys.specs.Typed.{IsRunning}
use Rattle.a2_timed_keys.proofs.run.run_on.Given as goal

-- where the run is
abbrev pub invariant-loop-made : goal.invariant-loop-made
invariant-loop-made g l =
    (start : World) → IsRunning (code_of l.fn.machine.state) start l.typed l.limit l.begun l.fn.machine
    → IsRunning (code_of l.fn.machine.state) start l.typed l.limit l.made l.machine

abbrev pub decreases-loop-made : goal.decreases-loop-made
decreases-loop-made g l = l.limit - l.made

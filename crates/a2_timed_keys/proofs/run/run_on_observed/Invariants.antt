use Rattle.std.proofs.Common.{◌≡◌, ◌-◌, ◌≤◌}
use Rattle.a2_services.specs.World.{World}
use Rattle.a2_machine.specs.Looks.{observer_after}
use Rattle.a2_machine.specs.State.{code_of}
use Rattle.a2_timed_keys.specs.Typed.{world_with_keys, IsRunning}
use Rattle.a2_timed_keys.specs.Rerun.{shown_from}
use Rattle.a2_timed_keys.proofs.run.run_on_observed.Given as goal

-- where the run is, and what was shown
abbrev pub invariant-loop-made : goal.invariant-loop-made
invariant-loop-made g l = record {
  more : l.begun ≤ l.made;
  at : (start : World) → IsRunning (code_of l.fn.machine.state) start l.typed l.limit l.begun l.fn.machine
      → IsRunning (code_of l.fn.machine.state) start l.typed l.limit l.made l.machine;
  shown : (start : World) → IsRunning (code_of l.fn.machine.state) start l.typed l.limit l.begun l.fn.machine
      → l.observer ≡ observer_after g.O.Observer.seen (shown_from (world_with_keys (code_of l.fn.machine.state) start l.typed) l.begun)
      l.fn.observer (l.made - l.begun);
}

abbrev pub decreases-loop-made : goal.decreases-loop-made
decreases-loop-made g l = l.limit - l.made

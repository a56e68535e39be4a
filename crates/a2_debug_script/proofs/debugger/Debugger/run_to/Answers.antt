use Rattle.std.proofs.Common.{refl}
use Rattle.a2_debug_script.specs.Runs.{heeded}
use Rattle.a2_debug_script.proofs.Runs.{IsRun, kept_run, places_kept, runs_are}
use Rattle.a2_debug_script.proofs.debugger.Debugger.run_to.Goals as goal

pub invariant_of-self : goal.invariant_of-self
invariant_of-self g c =
    let run : IsRun _ _ _ _ (heeded c.args.breaks c.self.inside.breaks.value) c.args.to c.self.inside.machine c.run_machine-stop.new.machine c.run_machine-stop.result =
    record {
      kept = c.self.invariant.0;
      held = c.self.inside.checkpoints.held;
      places = c.self.invariant.2;
      ran = rw c.deref.ensures at c.run_machine-stop.ensures;
      ahead = rw (← c.self.view_is) at c.requires.ahead;
      near = rw (← c.self.view_is) at c.requires.near;
      few = c.requires.few;
    } in
    (kept_run run _ c.steps.ensures, c.self.invariant.1, rw (c.oldest_at-self-inside.ensures, c.keep_at.ensures.held) (places_kept run _ c.steps.ensures))

pub returns : goal.returns
returns g c =
    rw (← c.self.view_is, c.halt_of.ensures, c.oldest_at-self-inside.ensures, c.keep_at.ensures.made) (runs_are _ (record {
      kept = c.self.invariant.0;
      held = c.self.inside.checkpoints.held;
      places = c.self.invariant.2;
      ran = rw c.deref.ensures at c.run_machine-stop.ensures;
      ahead = rw (← c.self.view_is) at c.requires.ahead;
      near = rw (← c.self.view_is) at c.requires.near;
      few = c.requires.few;
    }) _ _ c.steps.ensures refl)

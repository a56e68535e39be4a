use Rattle.std.proofs.Common.{◌∙◌, ap, suc}
use Rattle.a2_bus.specs.View.{memory_of}
use Rattle.a2_services.specs.World.{World}
use Rattle.a2_machine.specs.State.{Device}
use Rattle.a2_timed_keys.specs.Rerun.{Rerunning, worlds_of}
use Rattle.a2_trace.proofs.Storing.{stores-called}
use Rattle.a2_trace.proofs.choice.make_call.Goals as goal

pub returns-then-step : goal.returns-then-step
returns-then-step g c =
    let old = c.args.rerun.now in
    let (more, next) = c.step.ensures.made c.if-step.true in (
      more,
      next,
      c.differ.ensures
          ∙ stores-called c.args.span (worlds_of old.run old.steps) (worlds_of old.run (suc old.steps)) _ _
          (ap (λ (d : Device). memory_of d.state.bus) c.restore.ensures ∙ ap (λ (w : World). w.memory) c.machine.ensures.world)
          (ap (λ (w : World). w.memory) (c.machine-then-step.ensures.world ∙ ap (λ (r : Rerunning). worlds_of r.run r.steps) next)) c.requires,
    )

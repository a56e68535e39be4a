use Rattle.std.proofs.Common.{◌≡◌, subst}
use Rattle.a2_services.specs.World.{World}
use Rattle.a2_history.specs.Courses.{with_change}
use Rattle.a2_debugger.specs.Settings.{with_setting}
use Rattle.a2_debugger.proofs.inspector.set_value.Goals as goal

pub returns : goal.returns
returns g c = (
  c.change_of-change.result,
  subst (λ (w : World). with_change c.change_of-change.result w ≡ with_setting c.args.setting w) c.machine.ensures.world c.change_of-change.ensures,
  c.make_change.ensures,
)

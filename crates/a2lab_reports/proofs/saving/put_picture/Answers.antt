use Rattle.std.proofs.Common.{◌≡◌, ◌∙◌, ap, ap₂, subst}
use Rattle.a2_stream.specs.Stream.{Sends}
use Rattle.a2_bus.specs.BusState.{BusState}
use Rattle.a2_picture.specs.Png.{png}
use Rattle.a2lab_reports.proofs.saving.put_picture.Goals as goal

pub returns : goal.returns
returns g c =
    let bus : BusState = c.args.machine.now.state.bus in
    let same : png c.ram.result.now c.view.result.switches ≡ png bus.bytes bus.devices.switches
    = ap₂ png (c.ram.ensures.bytes ∙ ap (λ (b : BusState). b.bytes) c.space-space.ensures) (c.view.ensures.switches ∙ ap (λ (b : BusState). b.devices.switches) c.space-space.ensures) in
    subst (Sends (g.W.Output.taker c.args.writer.now) (g.W.Output.taker c.put_png.new.writer)) same c.in_ok-put_png.ensures

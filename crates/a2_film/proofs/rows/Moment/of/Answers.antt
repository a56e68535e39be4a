use Rattle.std.proofs.Common.{length, sym, ap, ◌∙◌}
use Rattle.a2_bus.specs.BusState.{BusState}
use Rattle.a2_bus.specs.Devices.{Devices}
use Rattle.a2_bus.proofs.Viewing.{devices_seen}
use Rattle.a2_effect.specs.View.{registers_of}
use Rattle.a2_film.proofs.rows.Moment.of.Goals as goal

pub returns : goal.returns
returns g c =
    let seen = devices_seen c.args.machine.now.state.bus in
    let switches = c.view.ensures.switches ∙ sym (ap (λ (d : Devices). d.switches) seen) in
    let keys = c.waiting.ensures.keys ∙ ap (λ (b : BusState). b.devices.keys) c.space.ensures
    ∙ sym (ap (λ (d : Devices). d.keys) seen) in
    λ i. record {
      registers = registers_of (c.regs.ensures.value i);
      cycles = c.cycles.ensures i;
      switches = switches i;
      waiting = length (keys i);
    }

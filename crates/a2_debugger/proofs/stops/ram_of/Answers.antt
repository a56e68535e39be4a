use Rattle.std.specs.Prelude.{slice_get, length}
use Rattle.std.proofs.Common.{ap, sym, ◌∙◌}
use Rattle.a2_bus.specs.BusState.{BusState}
use Rattle.a2_machine.proofs.Looking.{ram-seen}
use Rattle.a2_debugger.proofs.stops.ram_of.Goals as goal

pub returns : goal.returns
returns g c =
    ap slice_get (c.ram.ensures.bytes ∙ ap (λ (b : BusState). b.bytes) c.space.ensures)
    ∙ ram-seen c.args.machine.now.state.bus (sym (ap (λ (b : BusState). length b.bytes) c.space.ensures) ∙ c.ram.ensures.size)

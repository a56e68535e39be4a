use Rattle.std.proofs.Common.{arith}
use Rattle.std.proofs.lemmas.Grind.{common_steps}
use Rattle.a2_effect.specs.Live.{live_registers}
use Rattle.a2_services.specs.World.{world_of}
use Rattle.a2_services.proofs.Lines.{effect_key, some_key, key_there}
use Rattle.a2_services.proofs.calls.keyin.Goals as goal

pub bounds-waiting-0 : goal.bounds-waiting-0
bounds-waiting-0 g c = some_key c.args.space.now c.waiting.result.now c.waiting.ensures.keys c.requires

pub returns : goal.returns
returns g c = record {
  left = λ cycles.
      let key =
      effect_key (world_of (live_registers c.args.live.now) c.args.space.now cycles) _
      (key_there c.args.space.now c.waiting.result.now c.waiting.ensures.keys c.requires) in
      grind (arith, common_steps);
  cycles = c.return_from.ensures.cycles;
  size = c.return_from.ensures.size;
}

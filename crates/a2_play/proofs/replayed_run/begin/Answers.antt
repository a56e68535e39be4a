use Rattle.std.proofs.Common.{◌∙◌, ap, ap₂, []}
use Rattle.a2_hex.specs.Images.{held}
use Rattle.a2_machine.specs.Start.{start_world}
use Rattle.a2_machine.specs.State.{Device, world_of_state}
use Rattle.a2_play.specs.Played.{start}
use Rattle.a2_play.proofs.replayed_run.begin.Goals as goal

pub returns-clause-world : goal.returns-clause-world
unfolding start
returns-clause-world g c =
    ap (λ (d : Device). world_of_state d.state) c.guard.ensures
    ∙ c.boot.ensures.world ∙ ap₂ (λ image entry. start_world (held image) entry []) c.image.ensures c.entry.ensures

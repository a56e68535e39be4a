use Rattle.a2_play.proofs.Runs.{played_start}
use Rattle.a2_play.proofs.player.Player.restart.Goals as goal

pub returns-clause-played : goal.returns-clause-played
returns-clause-played g c =
    played_start c.args.program.now c.begin.new.machine c.clear.new.self.items c.begin.ensures.world c.begin.ensures.steps c.begin.ensures.guard
    c.clear.ensures.items

use Rattle.a2_play.proofs.Runs.{played_run}
use Rattle.a2_play.proofs.player.Player.run.Goals as goal

pub returns-clause-played : goal.returns-clause-played
returns-clause-played g c =
    rw (← c.self.view_is)
    (λ program at. played_run program c.self.inside.machine c.run-cause.new.self c.self.inside.log.items c.args.steps c.run-cause.result c.run-cause.ensures at)

use Rattle.a2_play.proofs.Runs.{played_run_to}
use Rattle.a2_play.proofs.player.Player.run_to_wait.Goals as goal

pub returns-clause-played : goal.returns-clause-played
returns-clause-played g c =
    rw (← c.self.view_is)
    (λ program at. played_run_to program _ c.self.inside.machine c.run_to_observed.new.self c.self.inside.log.items c.args.steps c.run_to_observed.result c.run_to_observed.ensures.run at)

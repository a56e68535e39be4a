use Rattle.std.proofs.Common.{◌∙◌, sym, ap₂}
use Rattle.a2_play.specs.Played.{world_with_keys}
use Rattle.a2_play.proofs.replay_is_play.Goals as goal

pub returns : goal.returns
returns c = λ program play again is same log steps.
    same.holds ∙ ap₂ (λ l n. world_with_keys program l n) log steps ∙ sym is.holds

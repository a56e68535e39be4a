use Rattle.a2_promise.proofs.Laying.{on_ok}
use Rattle.a2_promise.proofs.TakenChanges.{more_read}
use Rattle.a2_promise.proofs.promises.+more_changes.Goals as goal

pub returns : goal.returns
returns t c =
    on_ok c.more_changes.result c.more_changes.ensures (more_read c.in_ok-take_change.ensures (c.took.ensures.took c.if-not-took.false))

use Rattle.std.proofs.Common.{List, subst, sym}
use Rattle.a2_machine.specs.State.{Device}
use Rattle.a2_history.specs.Going.{AreOn}
use Rattle.a2_history.proofs.Holding.{on-held}
use Rattle.a2_history.proofs.checkpoints.Checkpoints.keep.Goals as goal

pub returns-then-is_due : goal.returns-then-is_due
returns-then-is_due g c = λ course here on.
    on-held course c.self.inside.most c.args.machine.now.state c.self.inside.held.items c.hold.new.held.items c.hold.ensures.holds here
    (subst (λ (ds : List Device). AreOn course ds) (sym c.self.view_is) on)

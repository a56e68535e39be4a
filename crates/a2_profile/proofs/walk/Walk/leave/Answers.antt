use Rattle.std.proofs.Common.{sym, ap, ◌∙◌}
use Rattle.a2_profile.specs.Walks.{left_below}
use Rattle.a2_profile.proofs.WalkLaws.{below-next, below-last}
use Rattle.a2_profile.proofs.walk.Walk.leave.Goals as goal

pub loop-self-preserved : goal.loop-self-preserved
loop-self-preserved g c =
    ap (left_below c.args.s) c.close.ensures.left ∙ below-next c.args.s c.loop-self.self (sym c.leaves.ensures.value ∙ c.loop-self-test.true) ∙ c.loop-self.invariant

pub returns : goal.returns
returns g c = sym (below-last c.args.s c.loop-self.self (sym c.leaves.ensures.value ∙ c.loop-self-test.false)) ∙ c.loop-self.invariant

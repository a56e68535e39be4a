use Rattle.a2_profile.proofs.WalkLaws.{alike-more}
use Rattle.a2_profile.proofs.walk.Walk.finish.Goals as goal

pub loop-self-preserved : goal.loop-self-preserved
loop-self-preserved g c = alike-more c.args.self c.loop-self.self c.close.new.self c.loop-self.invariant c.close.ensures.alike

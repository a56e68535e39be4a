use Rattle.std.proofs.Common.{drop, List, subst}
use Rattle.a2_tests.specs.declared.line.NumberedLine.{NumberedLine}
use Rattle.a2_tests.specs.Requirements.{MeetsFirst, end_at}
use Rattle.a2_tests.proofs.Below.{below-next}
use Rattle.a2_tests.proofs.requirements.first_missed.Goals as goal

pub loop-index-preserved : goal.loop-index-preserved
loop-index-preserved g c =
    let program = c.args.ending.now.program.now in
    let end = end_at c.args.ending.now.machine.now.state c.args.ending.now.cause in
    below-next (λ k. MeetsFirst (drop k c.args.lines.now) program end) c.loop-index.index c.loop-index.invariant
    (subst (λ (lines : List NumberedLine). MeetsFirst lines program end) c.following.ensures (c.in_ok-is_met.ensures.0 c.if-not-branch.false))

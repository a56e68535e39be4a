use Rattle.std.proofs.Common.{arith, ◌∙◌}
use Rattle.a2_tty.proofs.Lists.{further, no_further, at_start}
use Rattle.a2_tty.proofs.line_editor.line.back_over.Goals as goal

pub loop-here-preserved : goal.loop-here-preserved
loop-here-preserved c = record {
  place = further c.args.blanks c.is_blank.result c.args.bytes.now c.loop-here.here c.loop-here-test.true c.is_blank.ensures c.if-is_blank-blanks.true
      ∙ c.loop-here.invariant.place;
  within = omega (arith, c.loop-here.invariant.within);
}

pub returns-else-is_blank-blanks-clause-place : goal.returns-else-is_blank-blanks-clause-place
returns-else-is_blank-blanks-clause-place c =
    no_further c.args.blanks c.is_blank.result c.args.bytes.now c.loop-here.here c.loop-here-test.true c.is_blank.ensures c.if-is_blank-blanks.false
    ∙ c.loop-here.invariant.place

pub returns-after-loop-here-clause-place : goal.returns-after-loop-here-clause-place
returns-after-loop-here-clause-place c = at_start c.args.blanks c.args.bytes.now c.loop-here.here (omega (arith, c.loop-here-test.false)) ∙ c.loop-here.invariant.place

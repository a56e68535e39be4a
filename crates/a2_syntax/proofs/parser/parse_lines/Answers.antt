use Rattle.std.proofs.Common.{length, arith, ap, refl}
use Rattle.std.proofs.lemmas.List.{take_more, take_all, map_push, length_push}
use Rattle.a2_syntax.proofs.ExprLaws.{no_piece}
use Rattle.a2_syntax.proofs.BareLaws.{AreLines-bare}
use Rattle.a2_syntax.proofs.OneReading.{AreLines-one}
use Rattle.a2_syntax.proofs.ParseLaws.{lines-push, first-unread}
use Rattle.a2_syntax.proofs.parser.parse_lines.Goals as goal

pub line-requires : goal.line-requires
line-requires g c = c.requires.short c.loop-text.text-index _ c.loop-text-test.true

pub returns-in_default-clause-refused : goal.returns-in_default-clause-refused
returns-in_default-clause-refused g c = λ other.
    (c.loop-text.n, refl, rw c.loop-text.invariant.number (first-unread c.args.texts.now c.loop-text.text-index c.loop-text.parsed.items c.loop-text-test.true c.loop-text.invariant.read (rw c.in_default.is at c.in_ok-line.ensures)))

pub returns-clause-only : goal.returns-clause-only
returns-clause-only g c = λ others h. rw c.of.ensures
    (AreLines-one _ others _ h (AreLines-bare _ _ _ (rw (take_all c.loop-text.text-index c.args.texts.now c.loop-text-test.false) at c.loop-text.invariant.read)))

pub loop-text-preserved : goal.loop-text-preserved
loop-text-preserved g c = record {
  count = omega (arith, rw length_push at (ap length c.in_ok-push.ensures.items), c.loop-text.invariant.count);
  number = omega arith;
  read = rw (c.in_ok-push.ensures.items, take_more c.args.texts.now c.loop-text.text-index no_piece c.loop-text-test.true, map_push)
      (lines-push _ _ _ c.in-Some.line c.loop-text.invariant.read (rw c.in-Some.is at c.in_ok-line.ensures));
}

pub returns-clause-read : goal.returns-clause-read
returns-clause-read g c = rw c.of.ensures (AreLines-bare _ _ _ (rw (take_all c.loop-text.text-index c.args.texts.now c.loop-text-test.false) at c.loop-text.invariant.read))

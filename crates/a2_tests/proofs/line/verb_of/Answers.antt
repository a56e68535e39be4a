use Rattle.std.proofs.Common.{sym, ◌∙◌, below_more, arith}
use Rattle.std.specs.Cmp.Lexicographic.{same_text, other_text}
use Rattle.a2_tests.proofs.Verbs.{verb-none, verb-only}
use Rattle.a2_tests.proofs.line.verb_of.Goals as goal

pub returns-then-eq-clause-only : goal.returns-then-eq-clause-only
returns-then-eq-clause-only c v e =
    verb-only c.args.word.now _ v (sym c.letters.ensures ∙ same_text _ _ (sym c.if-eq.true ∙ c.eq.ensures)) e

pub loop-verb-preserved : goal.loop-verb-preserved
loop-verb-preserved c =
    below_more _ _ c.loop-verb.invariant
    (λ e. other_text _ _ (sym c.if-eq.false ∙ c.eq.ensures) (c.letters.ensures ∙ e))

pub returns-clause-only : goal.returns-clause-only
returns-clause-only c v e =
    absurd (verb-none c.args.word.now c.loop-verb.verb-index (omega arith) c.loop-verb.invariant v e)

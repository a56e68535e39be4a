use Rattle.std.proofs.Common.{length, sym, arith}
use Rattle.std.proofs.lemmas.List.Sums.{prefix_len_is}
use Rattle.a2_text.proofs.words.front_len.Goals as goal

pub returns-then-not-test-clause-is : goal.returns-then-not-test-clause-is
returns-then-not-test-clause-is g c p tests =
    sym (prefix_len_is p c.args.text.now c.loop-i.i 0 (omega arith) (λ k h. sym (tests _ _ (c.loop-i.invariant k h))) (λ _. sym (tests _ _ c.if-not-test.ensures)))

pub returns-clause-is : goal.returns-clause-is
returns-clause-is g c p tests =
    sym (prefix_len_is p c.args.text.now (length c.args.text.now) 0 (omega arith) (λ k h. sym (tests _ _ (c.loop-i.invariant k (omega arith)))) (λ h. absurd (omega arith)))

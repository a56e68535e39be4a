use Rattle.std.proofs.Common.{inl, inr, eqb, rules}
use Rattle.std.specs.List.{slice_split}
use Rattle.a2_manual.proofs.Among.{any_here, any_behind, any_split, first_piece}
use Rattle.a2_manual.proofs.topic_lookup.has_name.Goals as goal

pub returns-then-eq_ignore_ascii_case : goal.returns-then-eq_ignore_ascii_case
returns-then-eq_ignore_ascii_case c =
    let some = first_piece c.cut_at.result.1 _ _ (λ rest. slice_split (λ b. eqb b 0x2C) rest.now) c.cut_at.ensures.pieces in
    (λ _. c.loop-following.invariant.1 (rw some.1 (any_here _ _ (c.eq_ignore_ascii_case.ensures.test.0 (search rules)))), λ _. search rules)

pub loop-following-preserved : goal.loop-following-preserved
loop-following-preserved c =
    let more = rw c.in-Some.is at c.cut_at.ensures.pieces in (
      λ a. elim (any_split _ _ (rw more at (c.loop-following.invariant.0 a))) [
        | inl here ↦ absurd (search (rules, c.eq_ignore_ascii_case.ensures.test.1 here))
        | inr following ↦ following
      ],
      λ b. c.loop-following.invariant.1 (rw more (any_behind _ _ b)),
    )

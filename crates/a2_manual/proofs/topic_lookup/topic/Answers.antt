use Rattle.std.proofs.Common.{[], inl, inr}
use Rattle.a2_manual.specs.Topics.{topics}
use Rattle.a2_manual.proofs.Among.{any_split, any_none, first_piece}
use Rattle.a2_manual.proofs.topic_lookup.topic.Goals as goal

pub loop-text-preserved : goal.loop-text-preserved
loop-text-preserved c =
    let more = rw c.in-Some-following.is at c.cut_at.ensures.pieces in
    let none = rw c.in_default.is at c.text_if_named.ensures in (
      λ a. elim (any_split _ _ (rw more at (c.loop-text.invariant.0 a))) [
        | inl here ↦ absurd (none here)
        | inr following ↦ following
      ],
      λ text said. c.loop-text.invariant.1 text (rw more (inr (none, said))),
    )

pub returns-in-Some : goal.returns-in-Some
returns-in-Some c =
    let some = first_piece c.cut_at.result.1 _ _ (λ rest. topics rest.now) c.cut_at.ensures.pieces in
    c.loop-text.invariant.1 _ (rw some.1 (inl (rw c.in-Some.is at c.text_if_named.ensures)))

pub returns-in_default-following : goal.returns-in_default-following
returns-in_default-following c = λ known.
    elim (any_split _ [] (rw (rw c.in_default-following.is at c.cut_at.ensures.pieces) at (c.loop-text.invariant.0 known))) [
      | inl here ↦ (rw c.in_default.is at c.text_if_named.ensures) here
      | inr following ↦ any_none following
    ]

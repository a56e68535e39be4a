use Rattle.std.proofs.Common.{◌≡◌, ◌-◌, ◌<◌, ◌⊎◌, inl, inr, ◌%◌, ◌/◌, false, arith, subst, sym}
use Rattle.a2_history.specs.Places.{IsPlaceKept}
use Rattle.a2_history.proofs.Placing.{start-place, near-place, even-place, place-kept}
use Rattle.a2_history.proofs.spacing.+is_place_kept.Goals as goal

pub returns-then-place-eq0-clause-kept : goal.returns-then-place-eq0-clause-kept
returns-then-place-eq0-clause-kept t c = λ some.
    subst (λ place. IsPlaceKept c.args.width c.args.now place) (sym c.if-place-eq0.true) (start-place c.args.width c.args.now (grind (arith, some)))

pub returns-then-saturating_sub-width-clause-kept : goal.returns-then-saturating_sub-width-clause-kept
returns-then-saturating_sub-width-clause-kept t c = λ near.
    near-place c.args.width c.args.now c.args.place (omega (arith, c.saturating_sub.ensures, c.if-saturating_sub-width.true))

pub returns-then-place-eq0-2-clause-kept : goal.returns-then-place-eq0-2-clause-kept
returns-then-place-eq0-2-clause-kept t c = λ is.
    even-place c.args.width c.args.now c.args.place c.if-place-eq0-2.true (c.is_place_kept.ensures.kept is)

pub returns-then-place-eq0-2-clause-others : goal.returns-then-place-eq0-2-clause-others
returns-then-place-eq0-2-clause-others t c = λ dropped is. go dropped (place-kept c.args.width c.args.now c.args.place is)
  where
    go : c.is_place_kept.result ≡ false
        → (c.args.now - c.args.place < c.args.width) ⊎ ((c.args.place % 2 ≡ 0) × IsPlaceKept c.args.width (c.args.now / 2) (c.args.place / 2)) → ⊥
    go dropped (inl near) = omega (arith, near, c.saturating_sub.ensures, c.if-saturating_sub-width.false)
    go dropped (inr half) = c.is_place_kept.ensures.others dropped half.1

pub returns-else-place-eq0-2-clause-others : goal.returns-else-place-eq0-2-clause-others
returns-else-place-eq0-2-clause-others t c = λ odd is. go (place-kept c.args.width c.args.now c.args.place is)
  where
    go : (c.args.now - c.args.place < c.args.width) ⊎ ((c.args.place % 2 ≡ 0) × IsPlaceKept c.args.width (c.args.now / 2) (c.args.place / 2)) → ⊥
    go (inl near) = omega (arith, near, c.saturating_sub.ensures, c.if-saturating_sub-width.false)
    go (inr half) = c.if-place-eq0-2.false half.0

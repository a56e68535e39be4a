-- Positions and their places.
use Rattle.std.proofs.Common.{◌≡◌, ◌⊎◌, inl, inr, ℕ, zero, suc, ◌-◌, ◌*◌, ◌/◌, ◌%◌, ◌^◌, ◌<◌, ◌≤◌, sym, ap, subst, ◌∙◌, arith, pow-suc, mul_assoc, mul_comm, zero-mul}
use Rattle.std.proofs.lemmas.Nat.{mul-le}
use Rattle.a2_history.specs.Spacing.{IsKept}
use Rattle.a2_history.specs.Places.{IsPlaceKept}

-- A number is less than two to its power.
pub below-power : (n : ℕ) → n < 2 ^ n
below-power zero = omega arith
below-power (suc n) = rw (pow-suc 2 n) (let before : n < 2 ^ n = below-power n in omega (arith, before))

-- doubled once more
pub twice : (n level : ℕ) → n * 2 ^ suc level ≡ n * 2 ^ level * 2
twice n level = ap (λ p. n * p) (pow-suc 2 level) ∙ sym (mul_assoc n (2 ^ level) 2)

-- the same, counted in strides
pub in_strides : (n power : ℕ) → n * (1024 * power) ≡ n * power * 1024
in_strides n power = ap (λ p. n * p) (mul_comm 1024 power) ∙ sym (mul_assoc n power 1024)

-- If something is kept, the width is at least 1.
pub kept-width : (width now place : ℕ) → IsPlaceKept width now place → 0 < width
kept-width zero now place is = absurd (omega (arith, is.newest, zero-mul (2 ^ is.level)))
kept-width (suc width) now place is = omega arith

-- The start is kept.
pub start-place : (width now : ℕ) → 0 < width → IsPlaceKept width now 0
start-place width now some = record {
  level = now;
  number = 0;
  multiple = sym (zero-mul (2 ^ now));
  newest = omega (arith, below-power now, mul-le 1 (2 ^ now) width (2 ^ now) some (le_refl));
}
  where
    le_refl : 2 ^ now ≤ 2 ^ now
    le_refl = omega arith

-- One of the latest places is kept.
pub near-place : (width now place : ℕ) → now - place < width → IsPlaceKept width now place
near-place width now place near = record { level = 0; number = place; multiple = omega arith; newest = omega (arith, near) }

-- An even place is kept if its half is kept among the halved places.
pub even-place : (width now place : ℕ) → place % 2 ≡ 0 → IsPlaceKept width (now / 2) (place / 2) → IsPlaceKept width now place
even-place width now place even is = record {
  level = suc is.level;
  number = is.number;
  multiple = omega (arith, even, is.multiple, twice is.number is.level);
  newest = omega (arith, even, is.newest, twice width is.level);
}

-- A kept place is one of the latest, or it is even and its half is kept among the halved places.
pub place-kept : (width now place : ℕ) → IsPlaceKept width now place
    → (now - place < width) ⊎ ((place % 2 ≡ 0) × IsPlaceKept width (now / 2) (place / 2))
place-kept width now place is = go is.level is.number is.multiple is.newest
  where
    go : (level number : ℕ) → place ≡ number * 2 ^ level → now - place < width * 2 ^ level
        → (now - place < width) ⊎ ((place % 2 ≡ 0) × IsPlaceKept width (now / 2) (place / 2))
    go zero number multiple newest = inl (omega (arith, newest))
    go (suc level) number multiple newest =
        let m : place ≡ number * 2 ^ level * 2 = multiple ∙ twice number level in
        let n : now - place < width * 2 ^ level * 2 = subst (λ w. now - place < w) (twice width level) newest in
        inr (omega (arith, m), record { level = level; number = number; multiple = omega (arith, m); newest = omega (arith, m, n) })

-- A kept position is a multiple of the stride, and its place is kept.
pub kept-place : (width now position : ℕ) → IsKept width now position → (position % 1024 ≡ 0) × IsPlaceKept width (now / 1024) (position / 1024)
kept-place width now position is =
    let m : position ≡ is.number * 2 ^ is.level * 1024 = is.multiple ∙ in_strides is.number (2 ^ is.level) in
    let n : now - position < width * 2 ^ is.level * 1024 = subst (λ w. now - position < w) (in_strides width (2 ^ is.level)) is.newest in
    (omega (arith, m), record { level = is.level; number = is.number; multiple = omega (arith, m); newest = omega (arith, m, n) })

pub place-position : (width now position : ℕ) → position % 1024 ≡ 0 → IsPlaceKept width (now / 1024) (position / 1024) → IsKept width now position
place-position width now position whole is = record {
  level = is.level;
  number = is.number;
  multiple = omega (arith, whole, is.multiple, in_strides is.number (2 ^ is.level));
  newest = omega (arith, whole, is.newest, in_strides width (2 ^ is.level));
}

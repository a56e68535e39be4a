-- A checkpoint is kept near each position.
use Rattle.std.proofs.Common.{◌≡◌, ◌≢◌, ◌⊎◌, inl, inr, ℕ, zero, suc, ◌+◌, ◌-◌, ◌*◌, ◌/◌, ◌%◌, ◌^◌, ◌<◌, ◌≤◌, min, refl, sym, ap, subst, ◌∙◌, arith, pow-suc, pow_pos, mul_left_comm, zero-mul, add-mul, one-mul, mod-lt, div-add-mod', le_trans}
use Rattle.std.proofs.lemmas.Bool.{cases_lt}
use Rattle.std.proofs.lemmas.Nat.{mul-le}
use Rattle.std.proofs.Math.Nat.{min-le_left, min-le_right, le-min}
use Rattle.a2_history.specs.Spacing.{spacing, IsKept, most_of, most_kept, IsWidth}
use Rattle.a2_history.specs.SpacingLaws.{IsBefore}
use Rattle.a2_history.proofs.Placing.{below-power}

spacing-more : (level : ℕ) → spacing (suc level) ≡ 2 * spacing level
spacing-more level = let e : 2 ^ suc level ≡ 2 ^ level * 2 = pow-suc 2 level in omega (arith, e)

spacing-some : (level : ℕ) → 0 < spacing level
spacing-some level = let e : 0 < 2 ^ level = pow_pos level in omega (arith, e)

-- the last multiple that is not above a position
abbrev last : ℕ → ℕ → ℕ
last space position = position / space * space

last-within : (space position : ℕ) → 0 < space → (last space position ≤ position) × (position < last space position + space)
last-within space position some =
    let whole : position / space * space + position % space ≡ position = div-add-mod' position space in
    let rest : position % space < space = mod-lt position some in
    (omega (arith, whole), omega (arith, whole, rest))

-- A multiple is kept on a level if the width reaches it.
last-kept : (level more now position : ℕ) → position ≤ now → now - position ≤ more * spacing level
    → IsBefore (more + 1) now position (last (spacing level) position)
last-kept level more now position within reached =
    let near = last-within (spacing level) position (spacing-some level) in
    let wide : (more + 1) * spacing level ≡ more * spacing level + spacing level =
    add-mul more 1 (spacing level) ∙ ap (λ s. more * spacing level + s) (one-mul (spacing level)) in record {
      kept = record {
        level = level;
        number = position / spacing level;
        multiple = refl;
        newest = omega (arith, within, reached, near.0, near.1, wide);
      };
      before = near.0;
    }

abbrev IsNearby : (more now position : ℕ) → Type 0
IsNearby more now position = (checkpoint : ℕ) × IsBefore (more + 1) now position checkpoint
    × ((position ≤ checkpoint + 1023) ⊎ (more * (position - checkpoint) ≤ 2 * (now - position)))

-- If the level below does not reach the position, this level is near enough.
far : (level more now position : ℕ) → position ≤ now → more * spacing level < now - position
    → more * (position - last (spacing (suc level)) position) ≤ 2 * (now - position)
far level more now position within beyond =
    let near = last-within (spacing (suc level)) position (spacing-some (suc level)) in
    let space : position - last (spacing (suc level)) position ≤ 2 * spacing level = omega (arith, near.1, spacing-more level) in
    let product : more * (position - last (spacing (suc level)) position) ≤ more * (2 * spacing level) =
    mul-le more (position - last (spacing (suc level)) position) more (2 * spacing level) (omega arith) space in
    omega (arith, product, beyond, mul_left_comm more 2 (spacing level))

either : (level more now position : ℕ) → position ≤ now → now - position ≤ more * spacing (suc level)
    → (now - position ≤ more * spacing level → IsNearby more now position)
    → (more * spacing level < now - position) ⊎ (now - position ≤ more * spacing level) → IsNearby more now position
either level more now position within reached lower (inl beyond) =
    (last (spacing (suc level)) position, last-kept (suc level) more now position within reached, inr (far level more now position within beyond))
either level more now position within reached lower (inr near) = lower near

-- the lowest level that reaches the position
nearby : (level more now position : ℕ) → position ≤ now → now - position ≤ more * spacing level → IsNearby more now position
nearby zero more now position within reached =
    let near = last-within (spacing 0) position (spacing-some 0) in
    (last (spacing 0) position, last-kept 0 more now position within reached, inl (omega (arith, near.1)))
nearby (suc level) more now position within reached =
    either level more now position within reached (λ lower. nearby level more now position within lower) (cases_lt (more * spacing level) (now - position))

-- a width of 1 keeps the start
start-nearby : (now position : ℕ) → position ≤ now → IsNearby 0 now position
start-nearby now position within = (
  0,
  record {
    kept = record { level = now; number = 0; multiple = sym (zero-mul (spacing now)); newest = omega (arith, below-power now) };
    before = omega arith;
  },
  inr (omega (arith, zero-mul (position - 0))),
)

any-nearby : (more now position : ℕ) → position ≤ now → IsNearby more now position
any-nearby zero now position within = start-nearby now position within
any-nearby (suc more) now position within =
    nearby now (suc more) now position within
    (omega (arith, below-power now, mul-le 1 (spacing now) (suc more) (spacing now) (omega arith) (omega arith)))

pub each-near : (width now position : ℕ) → 0 < width → position ≤ now
    → (checkpoint : ℕ) × IsBefore width now position checkpoint
    × ((position ≤ checkpoint + 1023) ⊎ ((width - 1) * (position - checkpoint) ≤ 2 * (now - position)))
each-near width now position some within =
    let whole : width - 1 + 1 ≡ width = omega (arith, some) in
    let found = any-nearby (width - 1) now position within in
    (found.0, subst (λ w. IsBefore w now position found.0) whole found.1, found.2)

-- Of no places, none is kept.
pub most-none : (levels width : ℕ) → most_of levels width 0 ≡ 0
unfolding most_of
most-none zero width = refl
most-none (suc levels) width = omega (arith, most-none levels width)

pub most-more : (levels width places first rest : ℕ) → places ≢ 0 → places < 2 ^ levels → first ≡ min ((width + 1) / 2) ((places + 1) / 2)
    → ((fewer : ℕ) → places / 2 < 2 ^ fewer → rest ≡ most_of fewer width (places / 2)) → first + rest ≡ most_of levels width places
unfolding most_of
most-more zero width places first rest some few is others = absurd (some (omega (arith, few)))
most-more (suc levels) width places first rest some few is others =
    let half : places < 2 ^ levels * 2 = subst (λ n. places < n) (pow-suc 2 levels) few in
    omega (arith, is, others levels (omega (arith, half)))

-- A width of 0 keeps nothing.
pub none-kept : (levels places : ℕ) → most_of levels 0 places ≡ 0
unfolding most_of
none-kept zero places = refl
none-kept (suc levels) places = omega (arith, none-kept levels (places / 2))

pub kept-wide : (most now width : ℕ) → most < most_kept width now → 1 ≤ width
kept-wide most now zero more = absurd (omega (arith, more, none-kept 54 (now / 1024)))
kept-wide most now (suc width) more = omega arith

-- The later the position, the more checkpoints are to be kept.
pub most-grows : (levels width places more : ℕ) → places ≤ more → most_of levels width places ≤ most_of levels width more
unfolding most_of
most-grows zero width places more le = omega arith
most-grows (suc levels) width places more le =
    let rest : most_of levels width (places / 2) ≤ most_of levels width (more / 2) = most-grows levels width (places / 2) (more / 2) (omega (arith, le)) in
    let first : min ((width + 1) / 2) ((places + 1) / 2) ≤ min ((width + 1) / 2) ((more + 1) / 2) =
    le-min (min-le_left ((width + 1) / 2) ((places + 1) / 2))
    (le_trans (min-le_right ((width + 1) / 2) ((places + 1) / 2)) (omega (arith, le))) in
    omega (arith, rest, first)

-- So the width never grows.
narrows : (most now width later narrower : ℕ) → now ≤ later → IsWidth most now width → IsWidth most later narrower → narrower ≤ width
narrows most now width later narrower le is will = go (cases_lt width narrower)
  where
    go : (width < narrower) ⊎ (narrower ≤ width) → narrower ≤ width
    go (inl wider) = absurd (omega (
      arith,
      is.widest narrower wider will.within,
      will.few,
      most-grows 54 narrower (now / 1024) (later / 1024) (omega (arith, le)),
    ))
    go (inr within) = within

pub none-again : (most now width later narrower checkpoint : ℕ) → now ≤ later → IsWidth most now width → IsWidth most later narrower
    → IsKept narrower later checkpoint → IsKept width now checkpoint
none-again most now width later narrower checkpoint le is will kept =
    let product : narrower * spacing kept.level ≤ width * spacing kept.level =
    mul-le narrower (spacing kept.level) width (spacing kept.level) (narrows most now width later narrower le is will) (omega arith) in record {
      level = kept.level;
      number = kept.number;
      multiple = kept.multiple;
      newest = omega (arith, kept.newest, product, le);
    }

-- Up to position 100,000,000, room for 605 checkpoints is enough for the largest width.
enough : most_kept 101 100_000_000 ≡ 605
unfolding most_of
enough = refl

widest : (most now width : ℕ) → 605 ≤ most → now ≤ 100_000_000 → IsWidth most now width → width ≡ 101
widest most now width many within is = go (cases_lt width 101)
  where
    go : (width < 101) ⊎ (101 ≤ width) → width ≡ 101
    go (inl narrow) = absurd (omega (
      arith,
      is.widest 101 narrow (omega arith),
      many,
      enough,
      most-grows 54 101 (now / 1024) (100_000_000 / 1024) (omega (arith, within)),
    ))
    go (inr wide) = omega (arith, wide, is.within)

pub within-fiftieth : (most now width position : ℕ) → 605 ≤ most → now ≤ 100_000_000 → IsWidth most now width → position ≤ now
    → (checkpoint : ℕ) × IsBefore width now position checkpoint
    × ((position ≤ checkpoint + 1023) ⊎ (50 * (position - checkpoint) ≤ now - position))
within-fiftieth most now width position many few is within =
    let wide = widest most now width many few is in
    let found = each-near width now position (omega (arith, wide)) within in
    (found.0, found.1, go found.0 wide found.2)
  where
    go : (checkpoint : ℕ) → width ≡ 101 → (position ≤ checkpoint + 1023) ⊎ ((width - 1) * (position - checkpoint) ≤ 2 * (now - position))
        → (position ≤ checkpoint + 1023) ⊎ (50 * (position - checkpoint) ≤ now - position)
    go checkpoint wide (inl near) = inl near
    go checkpoint wide (inr far) =
        inr (let hundred : 100 * (position - checkpoint) ≤ 2 * (now - position) =
        subst (λ w. (w - 1) * (position - checkpoint) ≤ 2 * (now - position)) wide far in omega (arith, hundred))

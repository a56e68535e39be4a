-- How many checkpoints are kept.
use Rattle.std.proofs.Common.{◌≡◌, ◌⊎◌, inl, inr, ℕ, zero, suc, ◌+◌, ◌-◌, ◌*◌, ◌/◌, ◌%◌, ◌^◌, ◌<◌, ◌≤◌, min, List, [], ◌∷◌, length, All, AllPairs, refl, subst, arith, pow-suc}
use Rattle.std.specs.List.{AllByRecursion}
use Rattle.std.proofs.lemmas.List.Elements.{recursion_from_All}
use Rattle.std.proofs.Math.Nat.{le-min}
use Rattle.a2_history.specs.Spacing.{IsKept, most_of, most_kept}
use Rattle.a2_history.specs.Places.{IsPlaceKept}
use Rattle.a2_history.proofs.Placing.{place-kept, kept-place}

-- numbers in ascending order, from one number up to but not including another
abbrev Rising : ℕ → ℕ → List ℕ → Type 0
Rising from end [] = Unit {0}
Rising from end (x ∷ xs) = (from ≤ x) × (x < end) × Rising (x + 1) end xs

rising-few : (from end : ℕ) (xs : List ℕ) → Rising from end xs → length xs ≤ end - from
rising-few from end [] is = omega arith
rising-few from end (x ∷ xs) is =
    let rest : length xs ≤ end - (x + 1) = rising-few (x + 1) end xs is.2 in omega (arith, rest, is.0, is.1)

rising-lower : (from lower end : ℕ) (xs : List ℕ) → lower ≤ from → Rising from end xs → Rising lower end xs
rising-lower from lower end [] le is = is
rising-lower from lower end (x ∷ xs) le is = (omega (arith, le, is.0), is.1, is.2)

rising-higher : (from higher end : ℕ) (xs : List ℕ) → AllByRecursion (λ x. higher ≤ x) xs → Rising from end xs → Rising higher end xs
rising-higher from higher end [] high is = is
rising-higher from higher end (x ∷ xs) high is = (high.0, is.1, is.2)

-- kept places, split into the even and the odd ones, both halved
record Parts (width now from : ℕ) (places : List ℕ) : Type 0 where
  evens : List ℕ
  odds : List ℕ
  both : length places ≡ length evens + length odds
  evens_rise : Rising ((from + 1) / 2) (now / 2 + 1) evens
  odds_rise : Rising (from / 2) ((now + 1) / 2) odds
  evens_kept : AllByRecursion (IsPlaceKept width (now / 2)) evens
  odds_newest : AllByRecursion (λ x. (now - width + 1) / 2 ≤ x) odds

parity : (n : ℕ) → (n % 2 ≡ 0) ⊎ (n % 2 ≡ 1)
parity n = grind arith

near-even : (width now place : ℕ) → place % 2 ≡ 0 → now - place < width → IsPlaceKept width (now / 2) (place / 2)
near-even width now place even near = record { level = 0; number = place / 2; multiple = omega arith; newest = omega (arith, even, near) }

even-first : (width now from x : ℕ) (xs : List ℕ) → from ≤ x → x < now + 1 → Parts width now (x + 1) xs
    → x % 2 ≡ 0 → IsPlaceKept width (now / 2) (x / 2) → Parts width now from (x ∷ xs)
even-first width now from x xs above within rest even is = record {
  evens = x / 2 ∷ rest.evens;
  odds = rest.odds;
  both = omega (arith, rest.both);
  evens_rise = (
    omega (arith, above, even),
    omega (arith, within),
    rising-lower ((x + 1 + 1) / 2) (x / 2 + 1) (now / 2 + 1) rest.evens (omega arith) rest.evens_rise,
  );
  odds_rise = rising-lower ((x + 1) / 2) (from / 2) ((now + 1) / 2) rest.odds (omega (arith, above)) rest.odds_rise;
  evens_kept = (is, rest.evens_kept);
  odds_newest = rest.odds_newest;
}

odd-first : (width now from x : ℕ) (xs : List ℕ) → from ≤ x → x < now + 1 → Parts width now (x + 1) xs
    → x % 2 ≡ 1 → now - x < width → Parts width now from (x ∷ xs)
odd-first width now from x xs above within rest odd near = record {
  evens = rest.evens;
  odds = x / 2 ∷ rest.odds;
  both = omega (arith, rest.both);
  evens_rise = rising-lower ((x + 1 + 1) / 2) ((from + 1) / 2) (now / 2 + 1) rest.evens (omega (arith, above)) rest.evens_rise;
  odds_rise = (
    omega (arith, above),
    omega (arith, within, odd),
    rising-lower ((x + 1) / 2) (x / 2 + 1) ((now + 1) / 2) rest.odds (omega (arith, odd)) rest.odds_rise,
  );
  evens_kept = rest.evens_kept;
  odds_newest = (omega (arith, near, odd, within), rest.odds_newest);
}

first-place : (width now from x : ℕ) (xs : List ℕ) → from ≤ x → x < now + 1 → Parts width now (x + 1) xs
    → (x % 2 ≡ 0) ⊎ (x % 2 ≡ 1) → (now - x < width) ⊎ ((x % 2 ≡ 0) × IsPlaceKept width (now / 2) (x / 2)) → Parts width now from (x ∷ xs)
first-place width now from x xs above within rest (inl even) (inl near) =
    even-first width now from x xs above within rest even (near-even width now x even near)
first-place width now from x xs above within rest (inl even) (inr half) = even-first width now from x xs above within rest even half.1
first-place width now from x xs above within rest (inr odd) (inl near) = odd-first width now from x xs above within rest odd near
first-place width now from x xs above within rest (inr odd) (inr half) = absurd (omega (arith, odd, half.0))

parts : (width now from : ℕ) (places : List ℕ) → Rising from (now + 1) places → AllByRecursion (IsPlaceKept width now) places
    → Parts width now from places
parts width now from [] rise kept = record {
  evens = [];
  odds = [];
  both = refl;
  evens_rise = tt;
  odds_rise = tt;
  evens_kept = tt;
  odds_newest = tt;
}
parts width now from (x ∷ xs) rise kept =
    first-place width now from x xs rise.0 rise.1 (parts width now (x + 1) xs rise.2 kept.1) (parity x) (place-kept width now x kept.0)

count : (levels width now : ℕ) (places : List ℕ) → now < 2 ^ levels → Rising 1 (now + 1) places
    → AllByRecursion (IsPlaceKept width now) places → length places ≤ most_of levels width now
unfolding most_of
count zero width now places few rise kept =
    let most : length places ≤ now + 1 - 1 = rising-few 1 (now + 1) places rise in omega (arith, most, few)
count (suc levels) width now places few rise kept =
    let p = parts width now 1 places rise kept in
    let half : now < 2 ^ levels * 2 = subst (λ n. now < n) (pow-suc 2 levels) few in
    let evens : length p.evens ≤ most_of levels width (now / 2) =
    count levels width (now / 2) p.evens (omega (arith, half)) (p.evens_rise) p.evens_kept in
    let all : length p.odds ≤ (now + 1) / 2 - 1 / 2 = rising-few (1 / 2) ((now + 1) / 2) p.odds p.odds_rise in
    let newest : length p.odds ≤ (now + 1) / 2 - (now - width + 1) / 2 =
    rising-few ((now - width + 1) / 2) ((now + 1) / 2) p.odds
    (rising-higher (1 / 2) ((now - width + 1) / 2) ((now + 1) / 2) p.odds p.odds_newest p.odds_rise) in
    let odds : length p.odds ≤ min ((width + 1) / 2) ((now + 1) / 2) = le-min (omega (arith, newest)) (omega (arith, all)) in
    omega (arith, p.both, evens, odds)

-- positions in ascending order, counted in strides
record Strides (width now from : ℕ) (positions : List ℕ) : Type 0 where
  places : List ℕ
  same : length positions ≡ length places
  rise : Rising from (now / 1024 + 1) places
  kept : AllByRecursion (IsPlaceKept width (now / 1024)) places

abbrev IsHeld : ℕ → ℕ → ℕ → Type 0
IsHeld width now position = (0 < position) × (position ≤ now) × IsKept width now position

tail-pairs : (x : ℕ) (xs : List ℕ) → AllPairs (λ earlier later. earlier < later) (x ∷ xs) → AllPairs (λ earlier later. earlier < later) xs
tail-pairs x xs all = λ i j d lt within. all (suc i) (suc j) d (omega (arith, lt)) (omega (arith, within))

head-below : (x : ℕ) (xs : List ℕ) → AllPairs (λ earlier later. earlier < later) (x ∷ xs) → All (λ y. x < y) xs
head-below x xs all = λ k d within. all 0 (suc k) d (omega arith) (omega (arith, within))

raise : (width now from : ℕ) (positions : List ℕ) → from % 1024 ≡ 0 → AllByRecursion (λ p. from < p) positions
    → AllByRecursion (IsHeld width now) positions → AllByRecursion (λ p. (from / 1024 + 1) * 1024 ≤ p) positions
raise width now from [] start above held = tt
raise width now from (p ∷ ps) start above held =
    let whole : p % 1024 ≡ 0 = (kept-place width now p held.0.2).0 in
    (omega (arith, whole, start, above.0), raise width now from ps start above.1 held.1)

strides : (width now from : ℕ) (positions : List ℕ) → AllPairs (λ earlier later. earlier < later) positions
    → AllByRecursion (IsHeld width now) positions → AllByRecursion (λ p. from * 1024 ≤ p) positions → Strides width now from positions
strides width now from [] rise held above = record { places = []; same = refl; rise = tt; kept = tt }
strides width now from (x ∷ xs) rise held above =
    let here = kept-place width now x held.0.2 in
    let higher = raise width now x xs here.0 (recursion_from_All (λ y. x < y) xs (head-below x xs rise)) held.1 in
    let rest = strides width now (x / 1024 + 1) xs (tail-pairs x xs rise) held.1 higher in record {
      places = x / 1024 ∷ rest.places;
      same = omega (arith, rest.same);
      rise = (omega (arith, above.0), omega (arith, held.0.1), rest.rise);
      kept = (here.1, rest.kept);
    }

pub no-more : (width now : ℕ) (positions : List ℕ) → now < 2 ^ 64 → AllPairs (λ earlier later. earlier < later) positions
    → All (λ position. (0 < position) × (position ≤ now) × IsKept width now position) positions → length positions ≤ most_kept width now
no-more width now positions few rise held =
    let each = recursion_from_All (IsHeld width now) positions held in
    let s = strides width now 1 positions rise each (first positions each) in
    let most : length s.places ≤ most_of 54 width (now / 1024) = count 54 width (now / 1024) s.places (omega (arith, few)) s.rise s.kept in
    omega (arith, s.same, most)
  where
    first : (ps : List ℕ) → AllByRecursion (IsHeld width now) ps → AllByRecursion (λ p. 1 * 1024 ≤ p) ps
    first [] is = tt
    first (p ∷ ps) is =
        let whole = (kept-place width now p is.0.2).0 in (omega (arith, whole, is.0.0), first ps is.1)

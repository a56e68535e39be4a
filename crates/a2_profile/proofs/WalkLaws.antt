-- What each part of a step does to a walk.
use Rattle.std.specs.Prelude.{◌≡◌, ◌≢◌, ◌⊎◌, ℕ, zero, suc, ◌+◌, ◌-◌, ◌<◌, ◌≤◌, ◌^◌, ◌==◌, ◌&&◌, nat_le, not, Bool, true, false, List, [], ◌∷◌, ◌++◌, length, take, filter, nat_lt, replicate, slice_set, slice_get, slice_index_or, if◌then◌else◌, Some, refl}
use Rattle.std.specs.List.{All, AllPairs}
use Rattle.std.proofs.Common.{sym, ap, ap₂, ◌∙◌, subst, arith, inl, inr, get_or-set_same, get_or-set_other, mul-zero, lit<, lit≤}
use Rattle.std.proofs.lemmas.Bool.{and_parts, leb-true, le-ltb, lt-ltb}
use Rattle.std.proofs.lemmas.Bool.Decides.{nat_tests}
use Rattle.std.proofs.lemmas.List.{length-set, length-replicate, take_all, take_more, append-nil, get_or_default}
use Rattle.std.proofs.lemmas.Grind.{common_steps}
use Rattle.std.proofs.lemmas.Option.{get_or_from_slice_get}
use Rattle.std.proofs.lemmas.List.Elements.{All-push, filter-append}
use Rattle.std.proofs.lemmas.List.Folds.{sum_by-replicate}
use Rattle.std.proofs.lemmas.List.Quantifiers.{all_pairs_push}
use Rattle.std.proofs.lemmas.List.Sums.{sum_by-set, sum_by_push, sum_by_more}
use Rattle.a2_burst.specs.declared.observer.StepView.{StepView}
use Rattle.a2_profile.specs.declared.walk.Frame.{Frame}
use Rattle.a2_profile.specs.declared.walk.Opening.{Opening}
use Rattle.a2_profile.specs.declared.walk.Totals.{Totals}
use Rattle.a2_profile.specs.Seeing.{is_small}
use Rattle.a2_profile.specs.Totals.{itself, nothing, totals_at}
use Rattle.a2_profile.specs.Walks.{Walk, base, closed, opening_at, frame_at, inner, depth_of, with_open, seen, seen_at, IsWithin, IsWalk, IsLow, most_steps, counted, noted, opened, left, leaves, left_many, left_below, has_room, with_made, with_look, lost, SeesAlike}

-- one more step, of a routine itself or of a routine that it calls
abbrev pub with_step : Bool → Bool → ℕ → Totals → Totals
with_step own among cost t = record {
  times = t.times;
  steps = t.steps + (if own then 1 else 0);
  cycles = t.cycles + (if own then cost else 0);
  all_steps = t.all_steps + (if among then 1 else 0);
  all_cycles = t.all_cycles + (if among then cost else 0);
}

-- one more entry
abbrev pub with_entry : Bool → Totals → Totals
with_entry entered t = record {
  times = t.times + (if entered then 1 else 0);
  steps = t.steps;
  cycles = t.cycles;
  all_steps = t.all_steps;
  all_cycles = t.all_cycles;
}

-- Numbers

pub same-number : (a : ℕ) → (a == a) ≡ true
same-number a = grind (arith, nat_tests)

pub other-number : (a b : ℕ) → a ≢ b → (a == b) ≡ false
other-number a b ne = grind (arith, nat_tests, ne)

-- if it holds of the written element and of each other element, it holds of all after the write
pub each-set : {X : Type 0} (P : ℕ → X → Type 0) (xs : List X) (i : ℕ) (v d : X) → i < length xs → P i v
    → ((r : ℕ) → r ≢ i → P r (slice_index_or xs r d)) → (r : ℕ) → P r (slice_index_or (slice_set xs i v) r d)
each-set {X} P xs i v d low here others r = go (split r i)
  where
    split : (a b : ℕ) → (a ≡ b) ⊎ (a ≢ b)
    split a b = grind arith

    go : (r ≡ i) ⊎ (r ≢ i) → P r (slice_index_or (slice_set xs i v) r d)
    go (inl e) = subst (λ (k : ℕ). P k (slice_index_or (slice_set xs i v) k d)) (sym e) (subst (P i) (sym (get_or-set_same xs i v d low)) here)
    go (inr ne) = subst (P r) (sym (get_or-set_other xs i r v d ne)) (others r ne)

pub totals-alike : (a b : Totals) → a.times ≡ b.times → a.steps ≡ b.steps → a.cycles ≡ b.cycles → a.all_steps ≡ b.all_steps
    → a.all_cycles ≡ b.all_cycles → a ≡ b
totals-alike a b e f g h k = λ i. record { times = e i; steps = f i; cycles = g i; all_steps = h i; all_cycles = k i }

-- a routine that is entered
open-entered : (now depth done since : ℕ)
    → with_open now (depth + 1) done (if depth == 0 then now else since) ≡ with_open now depth done since
open-entered now depth done since =
    ap (λ (b : Bool). done + (if b then 0 else now - (if depth == 0 then now else since))) (other-number (depth + 1) 0 (λ e. absurd (omega (arith, e))))
    ∙ go (depth == 0)
  where
    go : (b : Bool) → done + (now - (if b then now else since)) ≡ done + (if b then 0 else now - since)
    go true = omega arith
    go false = refl

-- a routine that is left
open-left : (now depth done since : ℕ) → 0 < depth
    → with_open now (depth - 1) (done + (if depth == 1 then now - since else 0)) since ≡ with_open now depth done since
open-left now depth done since some = go (split depth)
  where
    split : (d : ℕ) → (d ≡ 1) ⊎ (d ≢ 1)
    split d = grind arith

    go : (depth ≡ 1) ⊎ (depth ≢ 1) → with_open now (depth - 1) (done + (if depth == 1 then now - since else 0)) since ≡ with_open now depth done since
    go (inl e) = subst (λ (d : ℕ). with_open now (d - 1) (done + (if d == 1 then now - since else 0)) since ≡ with_open now d done since) (sym e) (omega arith)
    go (inr ne) =
        ap₂ (λ (a b : Bool). (done + (if a then now - since else 0)) + (if b then 0 else now - since)) (other-number depth 1 ne)
        (other-number (depth - 1) 0 (λ e. ne (omega (arith, e, some))))
        ∙ open-more (done) (now - since)
        ∙ sym (ap (λ (b : Bool). done + (if b then 0 else now - since)) (other-number depth 0 (λ e. absurd (omega (arith, e, some)))))
      where
        open-more : (a b : ℕ) → (a + 0) + b ≡ a + b
        open-more a b = omega arith

-- an open routine grows with each step
open-grown : (now more depth done since : ℕ) → since ≤ now
    → with_open (now + more) depth done since ≡ with_open now depth done since + (if not (depth == 0) then more else 0)
open-grown now more depth done since le = go (depth == 0)
  where
    go : (b : Bool) → done + (if b then 0 else (now + more) - since) ≡ (done + (if b then 0 else now - since)) + (if not b then more else 0)
    go true = omega arith
    go false = omega (arith, le)

open-within : (now more depth done since : ℕ) → since ≤ now → with_open now depth done since ≤ now → with_open (now + more) depth done since ≤ now + more
open-within now more depth done since le within = go (depth == 0) within
  where
    go : (b : Bool) → done + (if b then 0 else now - since) ≤ now → done + (if b then 0 else (now + more) - since) ≤ now + more
    go true e = omega (arith, e)
    go false e = omega (arith, e, le)

-- Frames

-- the last frame
pub popped-inner : (frames : List Frame) (frame : Frame) → slice_get frames (length frames - 1) ≡ Some frame → frame.routine ≡ inner frames
popped-inner frames frame is = sym (ap (λ (f : Frame). f.routine) (get_or_from_slice_get frames (length frames - 1) frame base is))

pub depth-push : (r : ℕ) (frames : List Frame) (f : Frame) → depth_of r (frames ++ f ∷ []) ≡ depth_of r frames + (if f.routine == r then 1 else 0)
depth-push r frames f = sum_by_push (λ (g : Frame). if g.routine == r then 1 else 0) frames f

pub depth-pop : (r : ℕ) (frames : List Frame) → 0 < length frames
    → depth_of r frames ≡ depth_of r (take (length frames - 1) frames) + (if inner frames == r then 1 else 0)
depth-pop r frames some =
    let low : length frames - 1 < length frames = omega (arith, some) in
    let whole : take ((length frames - 1) + 1) frames ≡ frames = take_all ((length frames - 1) + 1) frames (omega (arith, some)) in
    sym (ap (depth_of r) whole) ∙ sum_by_more (λ (g : Frame). if g.routine == r then 1 else 0) frames (length frames - 1) base low

-- The walk of no steps

count_at-nothing : {X : Type 0} (n r : ℕ) (x : X) → slice_index_or (replicate n x) r x ≡ x
count_at-nothing zero r x = refl
count_at-nothing (suc n) zero x = refl
count_at-nothing (suc n) (suc r) x = count_at-nothing n r x

none-walk : (n : ℕ) → n ≡ 65537 → IsWalk (record { frames = []; totals = replicate n nothing; openings = replicate n closed; steps = 0; cycles = 0 })
none-walk n e = record {
  totals_size = length-replicate n nothing ∙ e;
  openings_size = length-replicate n closed ∙ e;
  fit = λ k d low. absurd (omega (arith, low));
  high = λ k d low. absurd (omega (arith, low));
  falls = λ i j d lt low. absurd (omega (arith, low));
  depths = λ r low. ap (λ (o : Opening). o.depth) (count_at-nothing n r closed);
  within = λ r low. subst (λ (o : Opening). IsWithin none o (totals_at (replicate n nothing) r)) (sym (count_at-nothing n r closed))
      (subst (λ (t : Totals). IsWithin none closed t) (sym (count_at-nothing n r nothing)) (record {
        times = omega arith;
        since_steps = omega arith;
        since_cycles = omega arith;
        steps = omega arith;
        cycles = omega arith;
        all_steps = omega arith;
        all_cycles = omega arith;
      }));
  steps_are = sum_by-replicate (λ (t : Totals). t.steps) n nothing ∙ mul-zero n;
  cycles_are = sum_by-replicate (λ (t : Totals). t.cycles) n nothing ∙ mul-zero n;
  few = omega arith;
  cheap = omega arith;
}
  where
    none : Walk
    none = record { frames = []; totals = replicate n nothing; openings = replicate n closed; steps = 0; cycles = 0 }

abbrev pub no_walk : Walk
no_walk = record { frames = []; totals = replicate 65537 nothing; openings = replicate 65537 closed; steps = 0; cycles = 0 }

pub empty-walk : (frames : List Frame) (totals : List Totals) (openings : List Opening) → frames ≡ [] → totals ≡ replicate 65537 nothing
    → openings ≡ replicate 65537 closed → IsWalk (record { frames = frames; totals = totals; openings = openings; steps = 0; cycles = 0 })
empty-walk frames totals openings e f g =
    subst (λ (l : List Frame). IsWalk (record { frames = l; totals = totals; openings = openings; steps = 0; cycles = 0 })) (sym e)
    (subst (λ (l : List Totals). IsWalk (record { frames = []; totals = l; openings = openings; steps = 0; cycles = 0 })) (sym f)
    (subst (λ (l : List Opening). IsWalk (record { frames = []; totals = replicate 65537 nothing; openings = l; steps = 0; cycles = 0 })) (sym g)
    (none-walk 65537 refl)))

-- Walks that show the same

seen-alike : (steps cycles : ℕ) (o p : Opening) (t u : Totals) → u.times ≡ t.times → u.steps ≡ t.steps → u.cycles ≡ t.cycles
    → with_open steps p.depth u.all_steps p.steps ≡ with_open steps o.depth t.all_steps o.steps
    → with_open cycles p.depth u.all_cycles p.cycles ≡ with_open cycles o.depth t.all_cycles o.cycles → seen steps cycles p u ≡ seen steps cycles o t
seen-alike steps cycles o p t u e f g h k = totals-alike (seen steps cycles p u) (seen steps cycles o t) e f g h k

pub alike-none : (walk : Walk) → SeesAlike walk walk
alike-none walk = record { seen_are = λ r lt. refl; steps = refl; cycles = refl }

pub alike-more : (old mid new : Walk) → SeesAlike old mid → SeesAlike mid new → SeesAlike old new
alike-more old mid new a b = record {
  seen_are = λ r lt. b.seen_are r lt ∙ a.seen_are r lt;
  steps = b.steps ∙ a.steps;
  cycles = b.cycles ∙ a.cycles;
}

-- A routine that is entered

module _ (walk : Walk) (h : IsWalk walk) (routine s : ℕ) (few : routine < 65537) (high : s ≤ 256) (low : IsLow s walk.frames) where
  abbrev old_opening : Opening
  old_opening = opening_at walk.openings routine

  abbrev new_opening : Opening
  new_opening = record {
    depth = old_opening.depth + 1;
    steps = if old_opening.depth == 0 then walk.steps else old_opening.steps;
    cycles = if old_opening.depth == 0 then walk.cycles else old_opening.cycles;
  }

  size : routine < length walk.openings
  size = omega (arith, h.openings_size, few)

  at-once : (now since : ℕ) (b : Bool) → since ≤ now → (if b then now else since) ≤ now
  at-once now since true le = omega arith
  at-once now since false le = le

  abbrev new_frame : Frame
  new_frame = record { routine = routine; s = s }

  deeper : depth_of routine (walk.frames ++ new_frame ∷ []) ≡ depth_of routine walk.frames + 1
  deeper = depth-push routine walk.frames new_frame ∙ ap (λ (b : Bool). depth_of routine walk.frames + (if b then 1 else 0)) (same-number routine)

  as-deep : (r : ℕ) → r ≢ routine → depth_of r (walk.frames ++ new_frame ∷ []) ≡ depth_of r walk.frames
  as-deep r ne =
      depth-push r walk.frames new_frame ∙ ap (λ (b : Bool). depth_of r walk.frames + (if b then 1 else 0)) (other-number routine r (λ e. ne (sym e)))
      ∙ plus-none (depth_of r walk.frames)
    where
      plus-none : (n : ℕ) → n + 0 ≡ n
      plus-none n = omega arith

  pub opened-walk : IsWalk (opened routine s walk)
  opened-walk = record {
    totals_size = h.totals_size;
    openings_size = length-set walk.openings routine new_opening ∙ h.openings_size;
    fit = All-push (λ (f : Frame). f.routine < 65537) walk.frames new_frame h.fit few;
    high = All-push (λ (f : Frame). f.s ≤ 256) walk.frames new_frame h.high high;
    falls = all_pairs_push (λ (f g : Frame). g.s < f.s) walk.frames new_frame h.falls (λ k d lt. low k d lt);
    depths = each-set (λ (r : ℕ) (o : Opening). r < 65537 → o.depth ≡ depth_of r (walk.frames ++ new_frame ∷ [])) walk.openings routine new_opening closed size
        (λ _. ap (λ (n : ℕ). n + 1) (h.depths routine few) ∙ sym deeper)
        (λ r ne lt. h.depths r lt ∙ sym (as-deep r ne));
    within = each-set (λ (r : ℕ) (o : Opening). r < 65537 → IsWithin (opened routine s walk) o (totals_at walk.totals r)) walk.openings routine new_opening closed size
        (λ _. let w = h.within routine few in let t = totals_at walk.totals routine in record {
          times = w.times;
          since_steps = at-once walk.steps old_opening.steps (old_opening.depth == 0) w.since_steps;
          since_cycles = at-once walk.cycles old_opening.cycles (old_opening.depth == 0) w.since_cycles;
          steps = w.steps;
          cycles = w.cycles;
          all_steps = subst (λ (n : ℕ). n ≤ walk.steps) (sym (open-entered walk.steps old_opening.depth t.all_steps old_opening.steps)) w.all_steps;
          all_cycles = subst (λ (n : ℕ). n ≤ walk.cycles) (sym (open-entered walk.cycles old_opening.depth t.all_cycles old_opening.cycles)) w.all_cycles;
        })
        (λ r ne lt. let w = h.within r lt in record {
          times = w.times;
          since_steps = w.since_steps;
          since_cycles = w.since_cycles;
          steps = w.steps;
          cycles = w.cycles;
          all_steps = w.all_steps;
          all_cycles = w.all_cycles;
        });
    steps_are = h.steps_are;
    cycles_are = h.cycles_are;
    few = h.few;
    cheap = h.cheap;
  }

  pub seen-opened : (r : ℕ) → r < 65537 → seen_at (opened routine s walk) r ≡ seen_at walk r
  seen-opened r lt =
      each-set (λ (k : ℕ) (o : Opening). k < 65537 → seen walk.steps walk.cycles o (totals_at walk.totals k) ≡ seen_at walk k) walk.openings routine new_opening closed size
      (λ _. let t = totals_at walk.totals routine in
      seen-alike walk.steps walk.cycles old_opening new_opening t t refl refl refl
      (open-entered walk.steps old_opening.depth t.all_steps old_opening.steps) (open-entered walk.cycles old_opening.depth t.all_cycles old_opening.cycles))
      (λ k ne few'. refl) r lt

-- Leaving the innermost routine

module _ (walk : Walk) (h : IsWalk walk) (some : 0 < length walk.frames) where
  abbrev at : ℕ
  at = inner walk.frames

  abbrev last_opening : Opening
  last_opening = opening_at walk.openings at

  abbrev last_totals : Totals
  last_totals = totals_at walk.totals at

  abbrev front : List Frame
  front = take (length walk.frames - 1) walk.frames

  pub inner-few : inner walk.frames < 65537
  inner-few = h.fit (length walk.frames - 1) base (omega (arith, some))

  last-deep : depth_of at walk.frames ≡ depth_of at front + 1
  last-deep = depth-pop at walk.frames some ∙ ap (λ (b : Bool). depth_of at front + (if b then 1 else 0)) (same-number at)

  pub last-open : 0 < (opening_at walk.openings (inner walk.frames)).depth
  last-open = omega (arith, h.depths at inner-few, last-deep)

  others-deep : (r : ℕ) → r ≢ at → depth_of r walk.frames ≡ depth_of r front
  others-deep r ne =
      depth-pop r walk.frames some ∙ ap (λ (b : Bool). depth_of r front + (if b then 1 else 0)) (other-number at r (λ e. ne (sym e)))
      ∙ plus-none (depth_of r front)
    where
      plus-none : (n : ℕ) → n + 0 ≡ n
      plus-none n = omega arith

  abbrev left_totals : Totals
  left_totals = record {
    times = last_totals.times;
    steps = last_totals.steps;
    cycles = last_totals.cycles;
    all_steps = last_totals.all_steps + (if last_opening.depth == 1 then walk.steps - last_opening.steps else 0);
    all_cycles = last_totals.all_cycles + (if last_opening.depth == 1 then walk.cycles - last_opening.cycles else 0);
  }

  abbrev left_opening : Opening
  left_opening = record { depth = last_opening.depth - 1; steps = last_opening.steps; cycles = last_opening.cycles }

  totals-low : at < length walk.totals
  totals-low = omega (arith, h.totals_size, inner-few)

  openings-low : at < length walk.openings
  openings-low = omega (arith, h.openings_size, inner-few)

  -- if it holds of the routine that is left and of each other routine, it holds of all
  each-left : (P : ℕ → Opening → Totals → Type 0) → P at left_opening left_totals
      → ((r : ℕ) → r ≢ at → P r (opening_at walk.openings r) (totals_at walk.totals r))
      → (r : ℕ) → P r (opening_at (left walk).openings r) (totals_at (left walk).totals r)
  each-left P here others r =
      each-set (λ (k : ℕ) (o : Opening). P k o (totals_at (left walk).totals k)) walk.openings at left_opening closed openings-low
      (subst (P at left_opening) (sym (get_or-set_same walk.totals at left_totals nothing totals-low)) here)
      (λ k ne. subst (P k (opening_at walk.openings k)) (sym (get_or-set_other walk.totals at k left_totals nothing ne)) (others k ne)) r

  front-fits : All (λ (f : Frame). f.routine < 65537) front
  front-fits = grind (arith, common_steps, h.fit)

  front-high : All (λ (f : Frame). f.s ≤ 256) front
  front-high = grind (arith, common_steps, h.high)

  front-falls : AllPairs (λ (f g : Frame). g.s < f.s) front
  front-falls = grind (arith, common_steps, h.falls)

  pub left-walk : IsWalk (left walk)
  left-walk = record {
    totals_size = length-set walk.totals at left_totals ∙ h.totals_size;
    openings_size = length-set walk.openings at left_opening ∙ h.openings_size;
    fit = front-fits;
    high = front-high;
    falls = front-falls;
    depths = each-left (λ (r : ℕ) (o : Opening) (t : Totals). r < 65537 → o.depth ≡ depth_of r front)
        (λ _. omega (arith, h.depths at inner-few, last-deep))
        (λ r ne lt. h.depths r lt ∙ others-deep r ne);
    within = each-left (λ (r : ℕ) (o : Opening) (t : Totals). r < 65537 → IsWithin (left walk) o t)
        (λ _. let w = h.within at inner-few in record {
          times = w.times;
          since_steps = w.since_steps;
          since_cycles = w.since_cycles;
          steps = w.steps;
          cycles = w.cycles;
          all_steps = subst (λ (n : ℕ). n ≤ walk.steps) (sym (open-left walk.steps last_opening.depth last_totals.all_steps last_opening.steps last-open)) w.all_steps;
          all_cycles = subst (λ (n : ℕ). n ≤ walk.cycles) (sym (open-left walk.cycles last_opening.depth last_totals.all_cycles last_opening.cycles last-open)) w.all_cycles;
        })
        (λ r ne lt. let w = h.within r lt in record {
          times = w.times;
          since_steps = w.since_steps;
          since_cycles = w.since_cycles;
          steps = w.steps;
          cycles = w.cycles;
          all_steps = w.all_steps;
          all_cycles = w.all_cycles;
        });
    steps_are = omega (arith, sum_by-set (λ (t : Totals). t.steps) walk.totals at left_totals nothing totals-low, h.steps_are);
    cycles_are = omega (arith, sum_by-set (λ (t : Totals). t.cycles) walk.totals at left_totals nothing totals-low, h.cycles_are);
    few = h.few;
    cheap = h.cheap;
  }

  pub left-alike : SeesAlike walk (left walk)
  left-alike = record {
    seen_are = each-left (λ (r : ℕ) (o : Opening) (t : Totals). r < 65537 → seen walk.steps walk.cycles o t ≡ seen_at walk r)
        (λ _. seen-alike walk.steps walk.cycles last_opening left_opening last_totals left_totals refl refl refl
        (open-left walk.steps last_opening.depth last_totals.all_steps last_opening.steps last-open)
        (open-left walk.cycles last_opening.depth last_totals.all_cycles last_opening.cycles last-open))
        (λ r ne lt. refl);
    steps = refl;
    cycles = refl;
  }

  -- A step that is counted in the routine

  abbrev made_totals : ℕ → Totals
  made_totals cost = record {
    times = last_totals.times;
    steps = last_totals.steps + 1;
    cycles = last_totals.cycles + cost;
    all_steps = last_totals.all_steps;
    all_cycles = last_totals.all_cycles;
  }

  each-counted : (cost : ℕ) (P : ℕ → Totals → Type 0) → P at (made_totals cost) → ((r : ℕ) → r ≢ at → P r (totals_at walk.totals r))
      → (r : ℕ) → P r (totals_at (counted cost walk).totals r)
  each-counted cost P here others r = each-set P walk.totals at (made_totals cost) nothing totals-low here others r

  more-within : (cost : ℕ) (o : Opening) (t u : Totals) → IsWithin walk o t → u.times ≡ t.times → u.steps ≤ t.steps + 1 → u.cycles ≤ t.cycles + cost
      → u.all_steps ≡ t.all_steps → u.all_cycles ≡ t.all_cycles → IsWithin (counted cost walk) o u
  more-within cost o t u w e f g i j = record {
    times = omega (arith, w.times, e);
    since_steps = omega (arith, w.since_steps);
    since_cycles = omega (arith, w.since_cycles);
    steps = omega (arith, w.steps, f);
    cycles = omega (arith, w.cycles, g);
    all_steps = subst (λ (n : ℕ). with_open (walk.steps + 1) o.depth n o.steps ≤ walk.steps + 1) (sym i)
        (open-within walk.steps 1 o.depth t.all_steps o.steps w.since_steps w.all_steps);
    all_cycles = subst (λ (n : ℕ). with_open (walk.cycles + cost) o.depth n o.cycles ≤ walk.cycles + cost) (sym j)
        (open-within walk.cycles cost o.depth t.all_cycles o.cycles w.since_cycles w.all_cycles);
  }

  pub counted-walk : (cost : ℕ) → walk.steps < most_steps → cost ≤ most_steps → IsWalk (counted cost walk)
  counted-walk cost room small = record {
    totals_size = length-set walk.totals at (made_totals cost) ∙ h.totals_size;
    openings_size = h.openings_size;
    fit = h.fit;
    high = h.high;
    falls = h.falls;
    depths = h.depths;
    within = each-counted cost (λ (r : ℕ) (t : Totals). r < 65537 → IsWithin (counted cost walk) (opening_at walk.openings r) t)
        (λ _. more-within cost last_opening last_totals (made_totals cost) (h.within at inner-few) refl (omega arith) (omega arith) refl refl)
        (λ r ne lt. let t = totals_at walk.totals r in
        more-within cost (opening_at walk.openings r) t t (h.within r lt) refl (omega arith) (omega arith) refl refl);
    steps_are = omega (arith, sum_by-set (λ (t : Totals). t.steps) walk.totals at (made_totals cost) nothing totals-low, h.steps_are);
    cycles_are = omega (arith, sum_by-set (λ (t : Totals). t.cycles) walk.totals at (made_totals cost) nothing totals-low, h.cycles_are);
    few = omega (arith, room);
    cheap = omega (arith, h.cheap, small);
  }

  pub counted-times : (cost r : ℕ) → r < 65537 → (totals_at (counted cost walk).totals r).times < (counted cost walk).steps
  counted-times cost r lt =
      each-counted cost (λ (k : ℕ) (t : Totals). k < 65537 → t.times < walk.steps + 1) (λ few. omega (arith, (h.within at few).times)) (λ k ne few. omega (arith, (h.within k few).times)) r lt

  step-seen : (cost r : ℕ) → r < 65537 → (own : Bool) (t u : Totals) → t ≡ totals_at walk.totals r → u.times ≡ t.times → u.steps ≡ t.steps + (if own then 1 else 0)
      → u.cycles ≡ t.cycles + (if own then cost else 0) → u.all_steps ≡ t.all_steps → u.all_cycles ≡ t.all_cycles
      → seen (walk.steps + 1) (walk.cycles + cost) (opening_at walk.openings r) u
      ≡ with_step own (not (depth_of r walk.frames == 0)) cost (seen walk.steps walk.cycles (opening_at walk.openings r) t)
  step-seen cost r lt own t u is e f g i j =
      let o = opening_at walk.openings r in
      let deep = h.depths r lt in
      totals-alike (seen (walk.steps + 1) (walk.cycles + cost) o u) (with_step own (not (depth_of r walk.frames == 0)) cost (seen walk.steps walk.cycles o t)) e f g
      (ap (λ (n : ℕ). with_open (walk.steps + 1) o.depth n o.steps) i ∙ open-grown walk.steps 1 o.depth t.all_steps o.steps (h.within r lt).since_steps
      ∙ ap (λ (d : ℕ). with_open walk.steps o.depth t.all_steps o.steps + (if not (d == 0) then 1 else 0)) deep)
      (ap (λ (n : ℕ). with_open (walk.cycles + cost) o.depth n o.cycles) j ∙ open-grown walk.cycles cost o.depth t.all_cycles o.cycles (h.within r lt).since_cycles
      ∙ ap (λ (d : ℕ). with_open walk.cycles o.depth t.all_cycles o.cycles + (if not (d == 0) then cost else 0)) deep)

  pub counted-seen : (cost r : ℕ) → r < 65537
      → seen_at (counted cost walk) r ≡ with_step (inner walk.frames == r) (not (depth_of r walk.frames == 0)) cost (seen_at walk r)
  counted-seen cost r lt =
      each-counted cost
      (λ (k : ℕ) (t : Totals). k < 65537 → seen (walk.steps + 1) (walk.cycles + cost) (opening_at walk.openings k) t
      ≡ with_step (at == k) (not (depth_of k walk.frames == 0)) cost (seen_at walk k))
      (λ few. step-seen cost at few true last_totals (made_totals cost) refl refl refl refl refl refl
      ∙ ap (λ (b : Bool). with_step b (not (depth_of at walk.frames == 0)) cost (seen_at walk at)) (sym (same-number at)))
      (λ k ne few. let t = totals_at walk.totals k in
      step-seen cost k few false t t refl refl (omega arith) (omega arith) refl refl
      ∙ ap (λ (b : Bool). with_step b (not (depth_of k walk.frames == 0)) cost (seen_at walk k)) (sym (other-number at k (λ e. ne (sym e)))))
      r lt

-- A JSR that is noted

module _ (walk : Walk) (h : IsWalk walk) (routine : ℕ) (few : routine < 65537) where
  abbrev old_totals : Totals
  old_totals = totals_at walk.totals routine

  abbrev noted_totals : Totals
  noted_totals = record {
    times = old_totals.times + 1;
    steps = old_totals.steps;
    cycles = old_totals.cycles;
    all_steps = old_totals.all_steps;
    all_cycles = old_totals.all_cycles;
  }

  noted-low : routine < length walk.totals
  noted-low = omega (arith, h.totals_size, few)

  pub noted-walk : (totals_at walk.totals routine).times < walk.steps → IsWalk (noted routine walk)
  noted-walk times = record {
    totals_size = length-set walk.totals routine noted_totals ∙ h.totals_size;
    openings_size = h.openings_size;
    fit = h.fit;
    high = h.high;
    falls = h.falls;
    depths = h.depths;
    within = each-set (λ (r : ℕ) (t : Totals). r < 65537 → IsWithin (noted routine walk) (opening_at walk.openings r) t) walk.totals routine noted_totals nothing noted-low
        (λ _. let w = h.within routine few in record {
          times = omega (arith, times);
          since_steps = w.since_steps;
          since_cycles = w.since_cycles;
          steps = w.steps;
          cycles = w.cycles;
          all_steps = w.all_steps;
          all_cycles = w.all_cycles;
        })
        (λ r ne lt. let w = h.within r lt in record {
          times = w.times;
          since_steps = w.since_steps;
          since_cycles = w.since_cycles;
          steps = w.steps;
          cycles = w.cycles;
          all_steps = w.all_steps;
          all_cycles = w.all_cycles;
        });
    steps_are = omega (arith, sum_by-set (λ (t : Totals). t.steps) walk.totals routine noted_totals nothing noted-low, h.steps_are);
    cycles_are = omega (arith, sum_by-set (λ (t : Totals). t.cycles) walk.totals routine noted_totals nothing noted-low, h.cycles_are);
    few = h.few;
    cheap = h.cheap;
  }

  pub noted-seen : (r : ℕ) → r < 65537 → seen_at (noted routine walk) r ≡ with_entry (routine == r) (seen_at walk r)
  noted-seen r lt =
      each-set (λ (k : ℕ) (t : Totals). k < 65537 → seen walk.steps walk.cycles (opening_at walk.openings k) t ≡ with_entry (routine == k) (seen_at walk k))
      walk.totals routine noted_totals nothing noted-low
      (λ _. ap (λ (b : Bool). with_entry b (seen_at walk routine)) (sym (same-number routine)))
      (λ k ne _. none-more (seen_at walk k) ∙ ap (λ (b : Bool). with_entry b (seen_at walk k)) (sym (other-number routine k (λ e. ne (sym e)))))
      r lt
    where
      none-more : (t : Totals) → t ≡ with_entry false t
      none-more t = totals-alike t (with_entry false t) (omega arith) refl refl refl refl

-- The same, from the values that a body computes

pub opened-is : (walk : Walk) (routine s : ℕ) → IsWalk walk → routine < 65537 → s ≤ 256 → IsLow s walk.frames
    → (frames : List Frame) (o : Opening) (steps cycles : ℕ) → frames ≡ walk.frames ++ record { routine = routine; s = s } ∷ []
    → o ≡ opening_at walk.openings routine → steps ≡ (if o.depth == 0 then walk.steps else o.steps)
    → cycles ≡ (if o.depth == 0 then walk.cycles else o.cycles)
    → IsWalk (record {
      frames = frames;
      totals = walk.totals;
      openings = slice_set walk.openings routine (record { depth = o.depth + 1; steps = steps; cycles = cycles });
      steps = walk.steps;
      cycles = walk.cycles;
    })
opened-is walk routine s h few high low frames o steps cycles e f i j =
    subst (λ (l : List Frame). IsWalk (with_parts l o steps cycles)) (sym e)
    (subst (λ (n : ℕ). IsWalk (with_parts new_frames o n cycles)) (sym i)
    (subst (λ (n : ℕ). IsWalk (with_parts new_frames o (if o.depth == 0 then walk.steps else o.steps) n)) (sym j)
    (subst (λ (p : Opening). IsWalk (with_parts new_frames p (if p.depth == 0 then walk.steps else p.steps) (if p.depth == 0 then walk.cycles else p.cycles)))
    (sym f) (opened-walk walk h routine s few high low))))
  where
    new_frames : List Frame
    new_frames = walk.frames ++ record { routine = routine; s = s } ∷ []

    with_parts : List Frame → Opening → ℕ → ℕ → Walk
    with_parts l p n m = record {
      frames = l;
      totals = walk.totals;
      openings = slice_set walk.openings routine (record { depth = p.depth + 1; steps = n; cycles = m });
      steps = walk.steps;
      cycles = walk.cycles;
    }

module _ (walk : Walk) (frames : List Frame) (i : ℕ) (o : Opening) (t : Totals) (steps cycles : ℕ)
    (e : frames ≡ take (length walk.frames - 1) walk.frames) (at : i ≡ inner walk.frames) (is_o : o ≡ opening_at walk.openings i)
    (is_t : t ≡ totals_at walk.totals i) (f : steps ≡ (if o.depth == 1 then walk.steps - o.steps else 0))
    (g : cycles ≡ (if o.depth == 1 then walk.cycles - o.cycles else 0)) where
  abbrev pub parts : List Frame → ℕ → Opening → Totals → ℕ → ℕ → Walk
  parts l k p u n m = record {
    frames = l;
    totals = slice_set walk.totals k (record { times = u.times; steps = u.steps; cycles = u.cycles; all_steps = u.all_steps + n; all_cycles = u.all_cycles + m });
    openings = slice_set walk.openings k (record { depth = p.depth - 1; steps = p.steps; cycles = p.cycles });
    steps = walk.steps;
    cycles = walk.cycles;
  }

  abbrev whole : ℕ → Opening → Totals → Walk
  whole k p u =
      parts (take (length walk.frames - 1) walk.frames) k p u (if p.depth == 1 then walk.steps - p.steps else 0) (if p.depth == 1 then walk.cycles - p.cycles else 0)

  pub left-same : parts frames i o t steps cycles ≡ left walk
  left-same =
      ap (λ (l : List Frame). parts l i o t steps cycles) e
      ∙ ap₂ (λ (n m : ℕ). parts (take (length walk.frames - 1) walk.frames) i o t n m) f g
      ∙ ap₂ (λ (p : Opening) (u : Totals). whole i p u) is_o is_t
      ∙ ap (λ (k : ℕ). whole k (opening_at walk.openings k) (totals_at walk.totals k)) at

-- Leaving

front-length : (frames : List Frame) → length (take (length frames - 1) frames) ≡ length frames - 1
front-length frames = grind (arith, common_steps)

filter-all : {X : Type 0} (p : X → Bool) (xs : List X) → All (λ x. p x ≡ true) xs → filter p xs ≡ xs
filter-all p [] all = refl
filter-all p (x ∷ xs) all =
    ap (λ (b : Bool). if b then x ∷ filter p xs else filter p xs) (all 0 x (omega arith))
    ∙ ap (λ (l : List _). x ∷ l) (filter-all p xs (λ k d low. all (suc k) d (omega (arith, low))))

-- the frames that a stack pointer is below
abbrev pub kept : ℕ → List Frame → List Frame
kept s frames = filter (λ f. nat_lt s f.s) frames

kept-one : (s : ℕ) (f : Frame) → nat_lt s f.s ≡ false → kept s (f ∷ []) ≡ []
kept-one s f e = ap (λ (b : Bool). if b then f ∷ [] else []) e

some-frames : (n : ℕ) → not (n == 0) ≡ true → 0 < n
some-frames n e = grind (arith, nat_tests, e)

pub leaves-some : (walk : Walk) (s : ℕ) → leaves s walk ≡ true → 0 < length walk.frames
leaves-some walk s e =
    some-frames (length walk.frames) (and_parts (not (length walk.frames == 0)) (nat_le (frame_at walk.frames (length walk.frames - 1)).s s) e).0

pub leaves-true : (walk : Walk) (s : ℕ) → leaves s walk ≡ true → kept s (take (length walk.frames - 1) walk.frames) ≡ kept s walk.frames
leaves-true walk s e =
    let some = leaves-some walk s e in
    let front = take (length walk.frames - 1) walk.frames in
    let last = frame_at walk.frames (length walk.frames - 1) in
    let high : last.s ≤ s = leb-true last.s s (and_parts (not (length walk.frames == 0)) (nat_le last.s s) e).1 in
    let whole : walk.frames ≡ front ++ last ∷ []
    = sym (take_all ((length walk.frames - 1) + 1) walk.frames (omega (arith, some))) ∙ take_more walk.frames (length walk.frames - 1) base (omega (arith, some)) in
    sym (ap (kept s) whole ∙ filter-append (λ f. nat_lt s f.s) front (last ∷ []) ∙ ap (λ (l : List Frame). kept s front ++ l) (kept-one s last (le-ltb s last.s high))
    ∙ append-nil (kept s front))

pub kept-low : (s : ℕ) (frames : List Frame) → IsLow s frames → kept s frames ≡ frames
kept-low s frames low = filter-all (λ f. nat_lt s f.s) frames (λ k d lt. lt-ltb s (slice_index_or frames k d).s (low k d lt))

-- a stack pointer below the innermost frame is below all frames
pub low-above : (walk : Walk) (s : ℕ) → IsWalk walk → (0 < length walk.frames → s < (frame_at walk.frames (length walk.frames - 1)).s) → IsLow s walk.frames
low-above walk s h high = λ k d low. go k d low (split k (length walk.frames - 1))
  where
    split : (a b : ℕ) → (a < b) ⊎ (b ≤ a)
    split a b = grind arith

    go : (k : ℕ) (d : Frame) → k < length walk.frames → (k < length walk.frames - 1) ⊎ (length walk.frames - 1 ≤ k) → s < (slice_index_or walk.frames k d).s
    go k d low (inl lt) =
        omega (arith, high (omega (arith, low)), h.falls k (length walk.frames - 1) base lt (omega (arith, low)), ap (λ (f : Frame). f.s) (get_or_default walk.frames k d base low))
    go k d low (inr le) =
        let at_last : k ≡ length walk.frames - 1 = omega (arith, low, le) in
        subst (λ (f : Frame). s < f.s) (sym (get_or_default walk.frames k d base low ∙ ap (frame_at walk.frames) at_last)) (high (omega (arith, low)))

-- so no routine is left
pub stays-low : (walk : Walk) (s : ℕ) → IsLow s walk.frames → leaves s walk ≡ false
stays-low walk s low = go (split (length walk.frames))
  where
    split : (n : ℕ) → (n ≡ 0) ⊎ (0 < n)
    split n = grind arith

    above : (n t : ℕ) → s < t → (not (n == 0) && nat_le t s) ≡ false
    above n t lt = grind (arith, nat_tests, lt)

    none : (n t : ℕ) → n ≡ 0 → (not (n == 0) && nat_le t s) ≡ false
    none n t e = grind (arith, nat_tests, e)

    go : (length walk.frames ≡ 0) ⊎ (0 < length walk.frames) → leaves s walk ≡ false
    go (inl e) = none (length walk.frames) (frame_at walk.frames (length walk.frames - 1)).s e
    go (inr some) =
        above (length walk.frames) (frame_at walk.frames (length walk.frames - 1)).s (low (length walk.frames - 1) base (omega (arith, some)))

-- if the innermost routine is not left, no routine is
pub low-all : (walk : Walk) (s : ℕ) → IsWalk walk → leaves s walk ≡ false → IsLow s walk.frames
low-all walk s h e = low-above walk s h (λ some. above (length walk.frames) (frame_at walk.frames (length walk.frames - 1)).s some e)
  where
    above : (n t : ℕ) → 0 < n → (not (n == 0) && nat_le t s) ≡ false → s < t
    above n t some e = grind (arith, nat_tests, some, e)

-- there are at most as many frames as stack pointers above
falls-by : (frames : List Frame) → AllPairs (λ (f g : Frame). g.s < f.s) frames → (k : ℕ) → k < length frames → (frame_at frames k).s + k ≤ (frame_at frames 0).s
falls-by frames falls zero low = omega arith
falls-by frames falls (suc k) low = omega (arith, falls-by frames falls k (omega (arith, low)), falls k (suc k) base (omega arith) low)

pub frames-few : (walk : Walk) (s : ℕ) → IsWalk walk → IsLow s walk.frames → length walk.frames < 257
frames-few walk s h low = go (split (length walk.frames))
  where
    split : (n : ℕ) → (n ≡ 0) ⊎ (0 < n)
    split n = grind arith

    go : (length walk.frames ≡ 0) ⊎ (0 < length walk.frames) → length walk.frames < 257
    go (inl none) = omega (arith, none)
    go (inr some) =
        let last : length walk.frames - 1 < length walk.frames = omega (arith, some) in
        omega (arith, some, falls-by walk.frames h.falls (length walk.frames - 1) last, h.high 0 base some, low (length walk.frames - 1) base last)

-- All routines that a stack pointer leaves

many-walk : (s n : ℕ) (walk : Walk) → IsWalk walk → IsWalk (left_many s n walk)
many-walk s zero walk h = h
many-walk s (suc n) walk h = go (leaves s walk) refl (λ some. many-walk s n (left walk) (left-walk walk h some))
  where
    go : (b : Bool) → leaves s walk ≡ b → (0 < length walk.frames → IsWalk (left_many s n (left walk))) → IsWalk (if b then left_many s n (left walk) else walk)
    go true e rest = rest (leaves-some walk s e)
    go false e rest = h

many-alike : (s n : ℕ) (walk : Walk) → IsWalk walk → SeesAlike walk (left_many s n walk)
many-alike s zero walk h = alike-none walk
many-alike s (suc n) walk h = go (leaves s walk) refl (λ some. many-alike s n (left walk) (left-walk walk h some))
  where
    go : (b : Bool) → leaves s walk ≡ b → (0 < length walk.frames → SeesAlike (left walk) (left_many s n (left walk)))
        → SeesAlike walk (if b then left_many s n (left walk) else walk)
    go true e rest =
        let some = leaves-some walk s e in
        alike-more walk (left walk) (left_many s n (left walk)) (left-alike walk h some) (rest some)
    go false e rest = alike-none walk

many-frames : (s n : ℕ) (walk : Walk) → IsWalk walk → length walk.frames ≤ n → (left_many s n walk).frames ≡ kept s walk.frames
many-frames s zero walk h few = none walk.frames few
  where
    none : (l : List Frame) → length l ≤ 0 → l ≡ kept s l
    none [] e = refl
    none (f ∷ l) e = absurd (omega (arith, e))
many-frames s (suc n) walk h few =
    go (leaves s walk) refl (λ some. many-frames s n (left walk) (left-walk walk h some) (omega (arith, few, some, front-length walk.frames)))
  where
    go : (b : Bool) → leaves s walk ≡ b → (0 < length walk.frames → (left_many s n (left walk)).frames ≡ kept s (left walk).frames)
        → (if b then left_many s n (left walk) else walk).frames ≡ kept s walk.frames
    go true e rest = rest (leaves-some walk s e) ∙ leaves-true walk s e
    go false e rest = sym (kept-low s walk.frames (low-all walk s h e))

pub below-walk : (s : ℕ) (walk : Walk) → IsWalk walk → IsWalk (left_below s walk)
below-walk s walk h = many-walk s (length walk.frames) walk h

pub below-alike : (s : ℕ) (walk : Walk) → IsWalk walk → SeesAlike walk (left_below s walk)
below-alike s walk h = many-alike s (length walk.frames) walk h

pub below-frames : (s : ℕ) (walk : Walk) → IsWalk walk → (left_below s walk).frames ≡ kept s walk.frames
below-frames s walk h = many-frames s (length walk.frames) walk h (omega arith)

pub below-next : (s : ℕ) (walk : Walk) → leaves s walk ≡ true → left_below s (left walk) ≡ left_below s walk
below-next s walk e =
    let some = leaves-some walk s e in
    let m = length walk.frames - 1 in
    let more : length walk.frames ≡ suc m = omega (arith, some) in
    ap (λ (n : ℕ). left_many s n (left walk)) (front-length walk.frames)
    ∙ ap (λ (b : Bool). if b then left_many s m (left walk) else walk) (sym e)
    ∙ ap (λ (n : ℕ). left_many s n walk) (sym more)

pub below-last : (s : ℕ) (walk : Walk) → leaves s walk ≡ false → left_below s walk ≡ walk
below-last s walk e = go (length walk.frames)
  where
    go : (n : ℕ) → left_many s n walk ≡ walk
    go zero = refl
    go (suc n) = ap (λ (b : Bool). if b then left_many s n (left walk) else walk) e

-- A view of a step that is counted

pub small-is : (look : StepView) → look.pc < 2 ^ 16 → look.s < 2 ^ 8 → look.next_pc < 2 ^ 16 → look.next_s < 2 ^ 8 → look.cycles < 2 ^ 32 → is_small look ≡ true
small-is look pc s next_pc next_s cycles =
    ap₂ (λ (a b : Bool). a && b) (lt-ltb look.pc (2 ^ 16) pc)
    (ap₂ (λ (a b : Bool). a && b) (lt-ltb look.s (2 ^ 8) s)
    (ap₂ (λ (a b : Bool). a && b) (lt-ltb look.next_pc (2 ^ 16) next_pc)
    (ap₂ (λ (a b : Bool). a && b) (lt-ltb look.next_s (2 ^ 8) next_s) (lt-ltb look.cycles (2 ^ 32) cycles))))

-- if there is room, and if there is none
seen-where : (walk : Walk) (look : StepView) (b : Bool) → is_small look ≡ true → IsWalk walk → has_room walk ≡ b
    → (if b then with_made look walk else walk) ≡ with_look walk look
seen-where walk look b small h room =
    ap (λ (c : Bool). if c then with_made look walk else walk) (sym room)
    ∙ ap₂ (λ (c d : Bool). if c && d then (if has_room walk then with_made look walk else walk) else lost) (sym small)
    (sym (ap (λ (n : ℕ). n == 65537) h.totals_size))

pub seen-made : (walk : Walk) (look : StepView) (made : Walk) → is_small look ≡ true → IsWalk walk → has_room walk ≡ true → made ≡ with_made look walk
    → made ≡ with_look walk look
seen-made walk look made small h room e = e ∙ seen-where walk look true small h room

pub seen-full : (walk : Walk) (look : StepView) → is_small look ≡ true → IsWalk walk → has_room walk ≡ false → walk ≡ with_look walk look
seen-full walk look small h room = seen-where walk look false small h room

-- at first, nothing is counted in the program itself
pub begun-seen : (new : Walk) → new ≡ opened itself 256 no_walk → (r : ℕ) → r < 65537 → seen_at new r ≡ nothing
begun-seen new is r lt =
    ap (λ (w : Walk). seen_at w r) is
    ∙ seen-opened no_walk (empty-walk [] (replicate 65537 nothing) (replicate 65537 closed) refl refl refl) itself 256 (lit< tt) (lit≤ tt)
    (λ k d low. absurd (omega (arith, low))) r lt
    ∙ ap₂ (λ (o : Opening) (t : Totals). seen 0 0 o t) (count_at-nothing 65537 r closed) (count_at-nothing 65537 r nothing)

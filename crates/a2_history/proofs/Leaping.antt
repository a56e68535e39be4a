-- Steps that are run in one call, along a run.
use Rattle.std.specs.Prelude.{IfNone, IfSome, ◌==◌, ◌||◌, nat_le, length, if◌then◌else◌}
use Rattle.std.proofs.Common.{◌≡◌, ◌⊎◌, inl, inr, ℕ, zero, suc, ◌+◌, ◌-◌, ◌<◌, ◌≤◌, Bool, true, false, true≢false, List, [], ◌∷◌, drop, Option, Some, None, refl, sym, ap, ap₂, ◌∙◌, arith}
use Rattle.std.proofs.lemmas.Bool.{ne_eqb, cond-false}
use Rattle.a2_burst.specs.Shown.{Shown}
use Rattle.a2_services.specs.World.{World}
use Rattle.a2_machine.specs.declared.causes.Cause.{Cause}
use Rattle.a2_machine.specs.ByteRun.{bytes}
use Rattle.a2_machine.specs.Looks.{shown_between, shown_at, observer_after}
use Rattle.a2_machine.specs.Meaning.{Code, stuck, next, world_at}
use Rattle.a2_machine.specs.State.{Device, world_of_state, code_of}
use Rattle.a2_history.specs.declared.Halt.{Halt}
use Rattle.a2_history.specs.declared.Halt.TheVariants.{Seen, Stopped}
use Rattle.a2_history.specs.declared.actions.Logged.{Logged}
use Rattle.a2_history.specs.declared.lookout.Watcher.{Watcher}
use Rattle.a2_history.specs.Courses.{Course, with_action, with_logged, arrived, world_on, NoneStuck}
use Rattle.a2_history.specs.Going.{IsOn, shown_on, AlarmsAreComplete}
use Rattle.a2_history.specs.Gone.{HasRunTo}
use Rattle.a2_history.specs.Bursts.{IsBurst, IsQuiet}
use Rattle.a2_history.specs.Acting.{IsActedBy}
use Rattle.a2_history.proofs.Ways.{none-some}

both_false : (u v : Bool) → (u || v) ≡ false → (u ≡ false) × (v ≡ false)
both_false false v e = (refl, e)
both_false true v e = absurd (true≢false e)

-- an entry of a log for another position
pub quiet-next : (log : List Logged) (i : ℕ) (t : Logged) (k : ℕ) (w : World) → drop i log ≡ t ∷ drop (i + 1) log → (t.position ≡ k → ⊥)
    → with_logged (drop i log) k w ≡ with_logged (drop (i + 1) log) k w
unfolding with_logged
quiet-next log i t k w split ne =
    ap (λ xs. with_logged xs k w) split ∙ ap (λ v. with_logged (drop (i + 1) log) k v) (cond-false _ _ _ (ne_eqb t.position k ne))

-- Observers that are shown the same become the same.
shown-alike : {O : Type 0} (seen : O → Shown → O) (f g : ℕ → Shown) (o : O) (n : ℕ) → ((k : ℕ) → k < n → f k ≡ g k)
    → observer_after seen f o n ≡ observer_after seen g o n
unfolding observer_after
shown-alike seen f g o zero same = refl
shown-alike seen f g o (suc n) same = ap₂ seen (shown-alike seen f g o n (λ k l. same k (omega (arith, l)))) (same n (omega arith))

-- a burst along a run with nothing done by hand during it, followed by what was done at its end
module _ (course : Course) (most to : ℕ) (old mid new : Device) (on : IsOn course old.state) (guarded : old.state.guard ≡ course.origin.guard)
    (made : IsBurst most old mid) (quiet : IsQuiet course.log old.state.steps to) (low : old.state.steps + most ≤ to)
    (acted_by : IsActedBy course.log mid.state new.state) where
  abbrev pub start : World
  start = world_of_state old.state

  abbrev pub count : ℕ
  count = mid.state.steps - old.state.steps

  same-next : (w : World) → next (code_of course.origin) w ≡ next (code_of old.state) w
  same-next w = ap (λ (c : Code). next c w) (sym (ap bytes guarded))

  along : (k : ℕ) → k < count → world_on course (old.state.steps + k) ≡ world_at (code_of old.state) start k
  unfolding world_on arrived world_at
  along zero l = let e : old.state.steps + 0 ≡ old.state.steps = omega arith in ap (world_on course) e ∙ sym on.world
  along (suc k) l =
      let e : old.state.steps + suc k ≡ suc (old.state.steps + k) = omega arith in
      quiet (old.state.steps + suc k) (omega arith) (omega (arith, l, low, made.most_made)) (arrived course (old.state.steps + suc k))
      ∙ ap (arrived course) e
      ∙ ap (next (code_of course.origin)) (along k (omega (arith, l)))
      ∙ same-next (world_at (code_of old.state) start k)

  arrives : (k : ℕ) → k < count → arrived course (suc (old.state.steps + k)) ≡ world_at (code_of old.state) start (suc k)
  unfolding world_on arrived world_at
  arrives k l = ap (next (code_of course.origin)) (along k l) ∙ same-next (world_at (code_of old.state) start k)

  at-end : arrived course mid.state.steps ≡ world_of_state mid.state
  at-end =
      let e : mid.state.steps ≡ suc (old.state.steps + (count - 1)) = omega (arith, made.some) in
      let f : suc (count - 1) ≡ count = omega (arith, made.some) in
      ap (arrived course) e ∙ arrives (count - 1) (omega (arith, made.some)) ∙ ap (world_at (code_of old.state) start) f ∙ sym made.reached

  pub burst-on : IsOn course new.state
  unfolding world_on
  burst-on = record {
    world = acted_by.world ∙ ap (with_logged course.log mid.state.steps) (sym at-end) ∙ ap (world_on course) (sym acted_by.steps);
    went = λ j l. go j (omega (arith, l, acted_by.steps)) (split j);
  }
    where
      split : (j : ℕ) → (j < old.state.steps) ⊎ (old.state.steps ≤ j)
      split j = grind arith

      go : (j : ℕ) → j < mid.state.steps → (j < old.state.steps) ⊎ (old.state.steps ≤ j) → stuck (code_of course.origin) (world_on course j) ≡ None
      go j l (inl a) = on.went j a
      go j l (inr a) =
          let e : j ≡ old.state.steps + (j - old.state.steps) = omega (arith, a) in
          ap (stuck (code_of course.origin)) (ap (world_on course) e ∙ along (j - old.state.steps) (omega (arith, a, l)))
          ∙ ap (λ (c : Code). stuck c (world_at (code_of old.state) start (j - old.state.steps))) (sym (ap bytes guarded))
          ∙ made.going (j - old.state.steps) (omega (arith, a, l))

  shown-along : (k : ℕ) → k < count → shown_at (code_of old.state) start k ≡ shown_on course (old.state.steps + k)
  shown-along k l =
      let e : suc (old.state.steps + k) ≡ old.state.steps + k + 1 = omega arith in
      ap₂ shown_between (sym (along k l)) (sym (arrives k l))
      ∙ ap (λ n. shown_between (world_on course (old.state.steps + k)) (arrived course n)) e

  pub burst-quiet : IsQuiet course.log old.state.steps new.state.steps
  burst-quiet = λ k l m w. quiet k l (omega (arith, m, low, made.most_made, acted_by.steps)) w

  pub burst-shown : {O : Type 0} (seen : O → Shown → O) (before after : O) → after ≡ observer_after seen (shown_at (code_of old.state) start) before count
      → after ≡ observer_after seen (λ k. shown_on course (old.state.steps + k)) before (new.state.steps - old.state.steps)
  burst-shown seen before after is =
      let e : count ≡ new.state.steps - old.state.steps = omega (arith, acted_by.steps) in
      is ∙ shown-alike seen (shown_at (code_of old.state) start) (λ k. shown_on course (old.state.steps + k)) before count shown-along
      ∙ ap (observer_after seen (λ k. shown_on course (old.state.steps + k)) before) e

-- Before a position that was reached, some steps are run.
pub leap-way : (course : Course) (end : ℕ) (old new : Device) (r : Option Cause) → IsOn course old.state → old.state.steps < end
    → NoneStuck course end → IfNone r (IsOn course new.state) → IfNone r (old.state.steps < new.state.steps) → IfNone r (new.state.steps ≤ end)
    → IfSome r (λ cause. stuck (code_of course.origin) (world_of_state old.state) ≡ Some cause)
    → IsOn course new.state × (old.state.steps < new.state.steps) × (new.state.steps ≤ end)
leap-way course end old new None on l went made ahead within told = (made, ahead, within)
leap-way course end old new (Some cause) on l went made ahead within told =
    absurd (none-some cause (sym (went old.state.steps l) ∙ sym (ap (stuck (code_of course.origin)) on.world) ∙ told))

-- An observer that records alarms and has recorded none was shown no step that raises one.
module _ {O : Type 0} (seen : O → Shown → O) (is_alarmed : O → Bool) (alarms : Shown → Bool) (Is : O → Type 0)
    (step : (o : O) (shown : Shown) → Is o → Is (seen o shown) × (is_alarmed (seen o shown) ≡ (is_alarmed o || alarms shown))) where
  stays : (f : ℕ → Shown) (o : O) (n : ℕ) → Is o → Is (observer_after seen f o n)
  unfolding observer_after
  stays f o zero is = is
  stays f o (suc n) is = (step (observer_after seen f o n) (f n) (stays f o n is)).0

  pub none-alarmed : (f : ℕ → Shown) (o : O) (n : ℕ) → Is o → is_alarmed (observer_after seen f o n) ≡ false → (k : ℕ) → k < n → alarms (f k) ≡ false
  unfolding observer_after
  none-alarmed f o zero is not k l = absurd (omega (arith, l))
  none-alarmed f o (suc n) is not k l =
      let parts = both_false (is_alarmed (observer_after seen f o n)) (alarms (f n)) (sym (step (observer_after seen f o n) (f n) (stays f o n is)).1 ∙ not) in
      go (none-alarmed f o n is parts.0) parts.1 (split k l)
    where
      split : (k : ℕ) → k < suc n → (k < n) ⊎ (k ≡ n)
      split k l = grind (arith, l)

      go : ((j : ℕ) → j < n → alarms (f j) ≡ false) → alarms (f n) ≡ false → (k < n) ⊎ (k ≡ n) → alarms (f k) ≡ false
      go before last (inl a) = before k a
      go before last (inr e) = ap (λ j. alarms (f j)) e ∙ last

-- The same holds for a watcher.
module _ {L : Type 0} (alarms_by : L → Shown → Bool) where
  abbrev pub watched : Watcher L → Shown → Watcher L
  watched watcher shown = record watcher { is_alarmed = watcher.is_alarmed || alarms_by watcher.lookout.now shown }

  pub none-watched : (f : ℕ → Shown) (before after : Watcher L) (n : ℕ) → after ≡ observer_after watched f before n → after.is_alarmed ≡ false
      → (k : ℕ) → k < n → alarms_by before.lookout.now (f k) ≡ false
  none-watched f before after n is not =
      none-alarmed watched (λ o. o.is_alarmed) (alarms_by before.lookout.now) (λ o. o.lookout.now ≡ before.lookout.now)
      (λ o shown same. (same, ap (λ l. o.is_alarmed || alarms_by l shown) same)) f before n refl
      (sym (ap (λ (o : Watcher L). o.is_alarmed) is) ∙ not)

-- If no step raises an alarm and nothing was done by hand in between, nothing is seen before the end.
pub unseen : (seen : World → Bool) (alarms : Shown → Bool) (course : Course) (start from to : ℕ) → AlarmsAreComplete seen alarms course start → start ≤ from
    → ((k : ℕ) → start < k → k ≤ from → seen (world_on course k) ≡ false) → NoneStuck course to → IsQuiet course.log from to
    → ((k : ℕ) → k < to - from → alarms (shown_on course (from + k)) ≡ false) → (k : ℕ) → start < k → k < to → seen (world_on course k) ≡ false
unseen seen alarms course start from to warns high before went quiet calm zero l m = absurd (omega (arith, l))
unseen seen alarms course start from to warns high before went quiet calm (suc k) l m =
    go (λ a. unseen seen alarms course start from to warns high before went quiet calm k a (omega (arith, m))) (split (suc k))
  where
    split : (j : ℕ) → (j ≤ from) ⊎ (from < j)
    split j = grind arith

    next_is : suc k ≡ k + 1
    next_is = omega arith

    told : (start < k → seen (world_on course k) ≡ false) → from < suc k → (b : Bool) → seen (world_on course (k + 1)) ≡ b
        → seen (world_on course (suc k)) ≡ false
    told earlier a false is = ap (λ n. seen (world_on course n)) next_is ∙ is
    told earlier a true is =
        let e : from + (k - from) ≡ k = omega (arith, a) in
        let new : (start < k) × (seen (world_on course k) ≡ true) =
        warns k (omega (arith, a, high)) (λ j b. went j (omega (arith, b, m)))
        (λ w. quiet (k + 1) (omega (arith, a)) (omega (arith, m)) w) is
        (ap (λ n. alarms (shown_on course n)) (sym e) ∙ calm (k - from) (omega (arith, a, m))) in
        absurd (true≢false (sym new.1 ∙ earlier new.0))

    go : (start < k → seen (world_on course k) ≡ false) → (suc k ≤ from) ⊎ (from < suc k) → seen (world_on course (suc k)) ≡ false
    go earlier (inl a) = before (suc k) l a
    go earlier (inr a) = told earlier a (seen (world_on course (k + 1))) refl

-- If nothing is seen at the end either, nothing is seen up to the end.
pub unseen-end : (seen : World → Bool) (course : Course) (start to : ℕ) → ((k : ℕ) → start < k → k < to → seen (world_on course k) ≡ false)
    → seen (world_on course to) ≡ false → (k : ℕ) → start < k → k ≤ to → seen (world_on course k) ≡ false
unseen-end seen course start to before last k l m = go (split k m)
  where
    split : (k : ℕ) → k ≤ to → (k < to) ⊎ (k ≡ to)
    split k m = grind (arith, m)

    go : (k < to) ⊎ (k ≡ to) → seen (world_on course k) ≡ false
    go (inl a) = before k l a
    go (inr e) = ap (λ n. seen (world_on course n)) e ∙ last

-- steps that were run one by one up to a position within an end
pub gone-further : (seen : World → Bool) (course : Course) (from to end here : ℕ) (halt : Halt) → to ≤ end → HasRunTo seen course from to here (Some halt)
    → HasRunTo seen course from end here (Some halt)
gone-further seen course from to end here Seen low gone =
    record { ahead = gone.ahead; within = omega (arith, gone.within, low); passed = gone.passed; why_is = gone.why_is }
gone-further seen course from to end here (Stopped cause) low gone =
    record { ahead = gone.ahead; within = omega (arith, gone.within, low); passed = gone.passed; why_is = gone.why_is }

-- the same, with nothing seen after them
pub gone-unseen : (seen : World → Bool) (course : Course) (start from to here : ℕ)
    → ((k : ℕ) → start < k → k ≤ from → seen (world_on course k) ≡ false) → HasRunTo seen course from to here None
    → (k : ℕ) → start < k → k ≤ here → seen (world_on course k) ≡ false
gone-unseen seen course start from to here before gone k l m = go (split k)
  where
    split : (k : ℕ) → (k ≤ from) ⊎ ((from < k) × (k < here)) ⊎ ((from < k) × (here ≤ k))
    split k = grind arith

    go : (k ≤ from) ⊎ ((from < k) × (k < here)) ⊎ ((from < k) × (here ≤ k)) → seen (world_on course k) ≡ false
    go (inl a) = before k l a
    go (inr (inl a)) = gone.passed k a.0 a.1
    go (inr (inr a)) =
        let e : here ≡ k = omega (arith, m, a.1) in
        ap (λ n. seen (world_on course n)) (sym e) ∙ gone.why_is.1 (omega (arith, a.0, e))

-- moving on from a position, up to which nothing was seen
pub gone-on : (seen : World → Bool) (course : Course) (start from end to : ℕ) (why : Option Halt) → start ≤ from
    → ((k : ℕ) → start < k → k ≤ from → seen (world_on course k) ≡ false) → HasRunTo seen course from end to why → HasRunTo seen course start end to why
gone-on seen course start from end to why high before gone =
    record { ahead = omega (arith, high, gone.ahead); within = gone.within; passed = λ k l m. below k l m (split k); why_is = told why gone.why_is }
  where
    split : (k : ℕ) → (k ≤ from) ⊎ (from < k)
    split k = grind arith

    below : (k : ℕ) → start < k → k < to → (k ≤ from) ⊎ (from < k) → seen (world_on course k) ≡ false
    below k l m (inl a) = before k l a
    below k l m (inr a) = gone.passed k a m

    last : (from < to → seen (world_on course to) ≡ false) → (to ≤ from) ⊎ (from < to) → start < to → seen (world_on course to) ≡ false
    last following (inl a) l = before to l a
    last following (inr a) l = following a

    told : (why : Option Halt) → Rattle.a2_history.specs.Gone.WhyStopped seen course from end to why
        → Rattle.a2_history.specs.Gone.WhyStopped seen course start end to why
    told None is = (is.0, last is.1 (split to))
    told (Some Seen) is = (omega (arith, high, is.0), is.1)
    told (Some (Stopped cause)) is = (last is.0 (split to), is.1)

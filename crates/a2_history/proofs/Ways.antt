-- Steps along a run.
use Rattle.std.specs.Prelude.{IfSome, IfNone, is_some, is_ok, All, Result, Ok, Err, if◌then◌else◌, filter}
use Rattle.std.proofs.lemmas.List.Elements.{All-push, All-filter}
use Rattle.std.proofs.Common.{◌≡◌, ◌⊎◌, inl, inr, ℕ, zero, suc, ◌+◌, ◌<◌, ◌≤◌, Bool, true, false, true≢false, List, [], ◌∷◌, ◌++◌, Option, Some, None, refl, sym, ap, subst, ◌∙◌, arith, cond, eqb, leb}
use Rattle.std.proofs.lemmas.Bool.{ne_eqb, leb-true, cond-false}
use Rattle.a2_services.specs.World.{World}
use Rattle.a2_machine.specs.declared.causes.Cause.{Cause}
use Rattle.a2_machine.specs.ByteRun.{bytes}
use Rattle.a2_machine.specs.Meaning.{Code, stuck, next}
use Rattle.a2_machine.specs.State.{MachineState, Device, world_of_state, code_of, cause_of, most_steps, IsStep}
use Rattle.a2_machine.proofs.Making.{cause_told, cause_none}
use Rattle.a2_history.specs.declared.actions.Action.{Action}
use Rattle.a2_history.specs.declared.actions.Logged.{Logged}
use Rattle.a2_history.specs.Courses.{Course, with_action, with_logged, arrived, world_on, NoneStuck}
use Rattle.a2_history.specs.Going.{IsNewest, IsOn, AreOn, up_to, with_done}
use Rattle.a2_history.specs.Acting.{IsActed, IsActedBy}
use Rattle.a2_history.proofs.Logs.{logged-append, logged-up_to, logged-here, logged-not_yet, logged-past}

pub none-some : {X : Type 0} (x : X) → None ≡ Some x → ⊥
none-some x e = true≢false (sym (ap is_some e))

-- Below the step limit, a machine's cause is why it is stuck.
pub cause-stuck : (d : Device) → d.state.steps < 100_000_000 → cause_of d.state ≡ stuck (code_of d.state) (world_of_state d.state)
cause-stuck d few = go (stuck (code_of d.state) (world_of_state d.state)) refl
  where
    low : d.state.steps < most_steps
    low = omega (arith, few)

    go : (found : Option Cause) → stuck (code_of d.state) (world_of_state d.state) ≡ found → cause_of d.state ≡ stuck (code_of d.state) (world_of_state d.state)
    go None e = sym (cause_none d e low) ∙ sym e
    go (Some cause) e = sym (cause_told d cause e) ∙ sym e

same-code : (course : Course) (state : MachineState) → state.guard ≡ course.origin.guard → code_of state ≡ code_of course.origin
same-code course state e = ap bytes e

below-next : (n : ℕ) (P : ℕ → Type 0) → P n → ((k : ℕ) → k < n → P k) → (k : ℕ) → k < n + 1 → P k
below-next n P here before k lt = go (split k lt)
  where
    split : (k : ℕ) → k < n + 1 → (k ≡ n) ⊎ (k < n)
    split k lt = grind (arith, lt)

    go : (k ≡ n) ⊎ (k < n) → P k
    go (inl e) = subst P (sym e) here
    go (inr l) = before k l

-- the start
pub on-start : (course : Course) (old new : MachineState) → world_of_state old ≡ world_of_state course.origin → old.steps ≡ 0 → IsActedBy course.log old new → IsOn course new
unfolding world_on arrived
on-start course old new same none is =
    let at : new.steps ≡ 0 = is.steps ∙ none in record {
      world = is.world ∙ ap (λ n. with_logged course.log n (world_of_state old)) none ∙ ap (λ w. with_logged course.log 0 w) same
          ∙ ap (world_on course) (sym at);
      went = λ k l. absurd (omega (arith, l, at));
    }

-- one step
pub on-step : (course : Course) (old mid new : Device) → IsOn course old.state → old.state.guard ≡ course.origin.guard → old.state.steps < 100_000_000
    → None ≡ cause_of old.state → IsStep old mid → IsActedBy course.log mid.state new.state → IsOn course new.state
unfolding world_on arrived
on-step course old mid new on guarded few none step is =
    let one : suc old.state.steps ≡ old.state.steps + 1 = omega arith in
    let count : mid.state.steps ≡ suc old.state.steps = step.steps ∙ sym one in
    let at : new.state.steps ≡ suc old.state.steps = is.steps ∙ count in
    let after : world_of_state mid.state ≡ arrived course (suc old.state.steps) =
    step.world ∙ ap (λ (k : Code). next k (world_of_state old.state)) (same-code course old.state guarded) ∙ ap (next (code_of course.origin)) on.world in
    let here : stuck (code_of course.origin) (world_on course old.state.steps) ≡ None =
    sym (ap (λ (k : Code). stuck k (world_of_state old.state)) (same-code course old.state guarded) ∙ ap (stuck (code_of course.origin)) on.world)
    ∙ sym (cause-stuck old few) ∙ sym none in
    record {
      world = is.world ∙ ap (λ n. with_logged course.log n (world_of_state mid.state)) count
          ∙ ap (λ w. with_logged course.log (suc old.state.steps) w) after ∙ ap (world_on course) (sym at);
      went = λ k l. below-next old.state.steps (λ n. stuck (code_of course.origin) (world_on course n) ≡ None) here on.went k (omega (arith, l, at, one));
    }

-- why no step can be executed
pub stuck-here : (course : Course) (old : Device) (cause : Cause) → old.state.guard ≡ course.origin.guard → old.state.steps < 100_000_000
    → Some cause ≡ cause_of old.state → stuck (code_of course.origin) (world_of_state old.state) ≡ Some cause
stuck-here course old cause guarded few told =
    sym (ap (λ (k : Code). stuck k (world_of_state old.state)) (same-code course old.state guarded)) ∙ sym (cause-stuck old few) ∙ sym told

pub on-made : (course : Course) (old mid new : Device) (r : Option Cause) → IsOn course old.state → old.state.guard ≡ course.origin.guard
    → old.state.steps < 100_000_000 → r ≡ cause_of old.state → IfNone r (IsStep old mid) → IsActedBy course.log mid.state new.state
    → IfNone r (IsOn course new.state)
on-made course old mid new None on guarded few told step is = on-step course old mid new on guarded few told step is
on-made course old mid new (Some cause) on guarded few told step is = tt

pub stuck-told : (course : Course) (old : Device) (r : Option Cause) → old.state.guard ≡ course.origin.guard → old.state.steps < 100_000_000
    → r ≡ cause_of old.state → IfSome r (λ cause. stuck (code_of course.origin) (world_of_state old.state) ≡ Some cause)
stuck-told course old None guarded few told = tt
stuck-told course old (Some cause) guarded few told = stuck-here course old cause guarded few told

-- Before a position that was reached, each step can be executed.
pub on-way : (course : Course) (end : ℕ) (old new : Device) (r : Option Cause) → IsOn course old.state → old.state.steps < end → NoneStuck course end
    → IfNone r (IsOn course new.state) → IfNone r (new.state.steps ≡ old.state.steps + 1)
    → IfSome r (λ cause. stuck (code_of course.origin) (world_of_state old.state) ≡ Some cause)
    → IsOn course new.state × (new.state.steps ≡ old.state.steps + 1)
on-way course end old new None on l went made steps told = (made, steps)
on-way course end old new (Some cause) on l went made steps told =
    absurd (none-some cause (sym (went old.state.steps l) ∙ sym (ap (stuck (code_of course.origin)) on.world) ∙ told))

-- the latest position so far
pub newest-none : (seen : World → Bool) (course : Course) (from : ℕ) → IsNewest seen course from from None
newest-none seen course from = λ k l m. absurd (omega (arith, l, m))

pub newest-next : (seen : World → Bool) (course : Course) (from n : ℕ) (found : Option ℕ) (b : Bool) → IsNewest seen course from n found → from ≤ n
    → seen (world_on course n) ≡ b → IsNewest seen course from (n + 1) (cond b (Some n) found)
newest-next seen course from n found true is l e =
    (l, omega arith, e, λ k m o. absurd (omega (arith, m, o)))
newest-next seen course from n None false is l e =
    λ k m o. below-next n (λ p. from ≤ p → seen (world_on course p) ≡ false) (λ _. e) (λ p q r. is p r q) k o m
newest-next seen course from n (Some p) false is l e =
    (is.0, omega (arith, is.1), is.2, λ k m o. below-next n (λ q. p < q → seen (world_on course q) ≡ false) (λ _. e) (λ q r s. is.3 q s r) k o m)

-- If nothing is seen in a second range, the result for the first range holds for both together.
pub newest-before : (seen : World → Bool) (course : Course) (from mid end : ℕ) (found : Option ℕ) → from ≤ mid → mid ≤ end → IsNewest seen course from mid found
    → IsNewest seen course mid end None → IsNewest seen course from end found
newest-before seen course from mid end None l m before following = λ k a b. go k a b (split k)
  where
    split : (k : ℕ) → (k < mid) ⊎ (mid ≤ k)
    split k = grind arith

    go : (k : ℕ) → from ≤ k → k < end → (k < mid) ⊎ (mid ≤ k) → seen (world_on course k) ≡ false
    go k a b (inl c) = before k a c
    go k a b (inr c) = following k c b
newest-before seen course from mid end (Some p) l m before following =
    (before.0, omega (arith, before.1, m), before.2, λ k a b. go k a b (split k))
  where
    split : (k : ℕ) → (k < mid) ⊎ (mid ≤ k)
    split k = grind arith

    go : (k : ℕ) → p < k → k < end → (k < mid) ⊎ (mid ≤ k) → seen (world_on course k) ≡ false
    go k a b (inl c) = before.3 k a c
    go k a b (inr c) = following k c b

pub newest-following : (seen : World → Bool) (course : Course) (low from end p : ℕ) → low ≤ from → IsNewest seen course from end (Some p)
    → IsNewest seen course low end (Some p)
newest-following seen course low from end p l is = (omega (arith, l, is.0), is.1, is.2, is.3)

-- What is done at a position changes nothing before it.
module _ (course : Course) (n : ℕ) (action : Action) where
  same-logged : (k : ℕ) (w : World) → k < n → with_logged (with_done n action course).log k w ≡ with_logged course.log k w
  same-logged k w l =
      logged-append (up_to n course.log) _ k w ∙ logged-not_yet action n k _ l ∙ logged-up_to course.log n k w (omega (arith, l))

  pub same-arrived : (k : ℕ) → k ≤ n → arrived (with_done n action course) k ≡ arrived course k
  unfolding arrived
  same-arrived zero l = refl
  same-arrived (suc k) l =
      ap (next (code_of course.origin))
      (ap (λ w. with_logged (with_done n action course).log k w) (same-arrived k (omega (arith, l))) ∙ same-logged k (arrived course k) (omega (arith, l)))

  pub same-before : (k : ℕ) → k < n → world_on (with_done n action course) k ≡ world_on course k
  unfolding world_on
  same-before k l =
      ap (λ w. with_logged (with_done n action course).log k w) (same-arrived k (omega (arith, l))) ∙ same-logged k (arrived course k) l

  pub same-here : world_on (with_done n action course) n ≡ with_action action (world_on course n)
  unfolding world_on
  same-here =
      ap (λ w. with_logged (with_done n action course).log n w) (same-arrived n (omega arith))
      ∙ logged-append (up_to n course.log) _ n (arrived course n) ∙ logged-here action n _
      ∙ ap (with_action action) (logged-up_to course.log n n (arrived course n) (omega arith))

  none-later : (log : List Logged) (k : ℕ) (w : World) → n < k → with_logged (up_to n log) k w ≡ w
  unfolding with_logged
  none-later [] k w l = refl
  none-later (t ∷ ts) k w l = go (leb t.position n) refl (none-later ts k w l)
    where
      go : (b : Bool) → leb t.position n ≡ b → with_logged (up_to n ts) k w ≡ w → with_logged (cond b (t ∷ up_to n ts) (up_to n ts)) k w ≡ w
      go true e rest =
          let low : t.position ≤ n = leb-true t.position n e in
          let ne : t.position ≡ k → ⊥ = λ bad. omega (arith, low, bad, l) in
          ap (λ v. with_logged (up_to n ts) k v) (cond-false _ _ _ (ne_eqb t.position k ne)) ∙ rest
      go false e rest = rest

  pub forgotten-later : (k : ℕ) → n ≤ k
      → world_on (with_done n action course) (suc k) ≡ next (code_of course.origin) (world_on (with_done n action course) k)
  unfolding world_on arrived
  forgotten-later k l =
      let w : World = arrived (with_done n action course) (suc k) in
      logged-append (up_to n course.log) _ (suc k) w
      ∙ logged-past action n (suc k) (with_logged (up_to n course.log) (suc k) w) (omega (arith, l))
      ∙ none-later course.log (suc k) w (omega (arith, l))

  pub same-went : (m : ℕ) → m ≤ n → NoneStuck course m → NoneStuck (with_done n action course) m
  same-went m l went = λ k lt. ap (stuck (code_of course.origin)) (same-before k (omega (arith, lt, l))) ∙ went k lt

  pub same-on : (state : MachineState) → state.steps < n → IsOn course state → IsOn (with_done n action course) state
  same-on state l on = record { world = on.world ∙ sym (same-before state.steps l); went = same-went state.steps (omega (arith, l)) on.went }

  pub done-on : (old new : MachineState) → old.steps ≡ n → IsOn course old → IsActed action old new → IsOn (with_done n action course) new
  done-on old new e on is =
      let at : new.steps ≡ n = is.steps ∙ e in record {
        world = is.world ∙ ap (with_action action) (on.world ∙ ap (world_on course) e) ∙ sym same-here ∙ ap (world_on (with_done n action course)) (sym at);
        went = λ k l. same-went n (omega arith) (λ j m. on.went j (omega (arith, m, e))) k (omega (arith, l, at));
      }

-- checkpoints
pub on-pushed : {X E : Type 0} (course : Course) (state : MachineState) (old new : List Device) (copy : Device) (r : Result X E)
    → new ≡ (if is_ok r then old ++ copy ∷ [] else old) → world_of_state copy.state ≡ world_of_state state → copy.state.steps ≡ state.steps
    → IsOn course state → AreOn course old → AreOn course new
on-pushed course state old new copy (Ok x) is same count here on =
    let at : IsOn course copy.state = record {
      world = same ∙ here.world ∙ ap (world_on course) (sym count);
      went = λ k l. here.went k (omega (arith, l, count));
    } in
    subst (λ (xs : List Device). AreOn course xs) (sym is) (All-push (λ (d : Device). IsOn course d.state) old copy on at)
on-pushed course state old new copy (Err e) is same count here on = subst (λ (xs : List Device). AreOn course xs) (sym is) on

pub on-filtered : (course : Course) (test : Device → Bool) (old new : List Device) → new ≡ filter test old → AreOn course old → AreOn course new
on-filtered course test old new is on =
    subst (λ (xs : List Device). AreOn course xs) (sym is) (All-filter test (λ (d : Device). IsOn course d.state) old on)

-- the checkpoints before a position at which something is done
pub on-done : (course : Course) (n : ℕ) (action : Action) (ds : List Device) → AreOn course ds → All (λ d. d.state.steps < n) ds
    → AreOn (with_done n action course) ds
on-done course n action ds on before = λ k d l. same-on course n action _ (before k d l) (on k d l)

-- A finished run that is executed again.
use Rattle.std.proofs.Common.{◌≡◌, ◌≢◌, ◌⊎◌, inl, inr, ℕ, suc, ◌+◌, ◌-◌, ◌<◌, ◌≤◌, List, [], ◌∷◌, length, refl, sym, ap, ap₂, ◌∙◌, subst, arith, Some, None}
use Rattle.a2_asm.specs.Programs.{IsSound}
use Rattle.a2_burst.specs.Shown.{Shown}
use Rattle.a2_services.specs.World.{World}
use Rattle.a2_machine.specs.ByteRun.{bytes}
use Rattle.a2_machine.specs.declared.causes.Cause.{Cause}
use Rattle.a2_machine.specs.declared.causes.Cause.TheVariants.{Limit}
use Rattle.a2_machine.specs.Looks.{shown_between, observer_after}
use Rattle.a2_machine.specs.Meaning.{Code, stuck, next}
use Rattle.a2_machine.specs.State.{Device, MachineState, world_of_state, code_of, cause_of, IsStep}
use Rattle.a2_machine.proofs.Making.{cause_none}
use Rattle.a2_run.specs.Meaning.{code_of_run, start_of_run}
use Rattle.a2_run.specs.Started.{guard_of_run}
use Rattle.a2_timed_keys.specs.declared.strokes.Typed.{Typed}
use Rattle.a2_timed_keys.specs.Typed.{keys_at, typed, with_keys, world_before_keys, world_with_keys, IsOverfull, IsTypedStop, IsRunning}
use Rattle.a2_timed_keys.specs.Finished.{Finished, IsStopped}
use Rattle.a2_timed_keys.specs.Rerun.{shown_from, worlds_of, IsRerunning}
use Rattle.a2_timed_keys.proofs.Worlds.{waiting, world-none, world-next, world-typed}
use Rattle.a2_timed_keys.proofs.Running.{two, keys_hold, waiting_with, by_own_code, with_limit}
use Rattle.a2_timed_keys.proofs.Meant.{world_meant}
use Rattle.a2_timed_keys.proofs.Seeing.{alike}

-- a run has few steps, for its limit is a number of 32 bits
pub few_steps : (f : Finished) → IsStopped f → f.limit < 4294967296 → f.machine.state.steps < 4294967296
few_steps f is low = omega (arith, is.end.within, low)

-- a run with another limit does not end before one of its steps
reaches : (code : Code) (start : World) (log : List Typed) (limit until : ℕ) (last state : MachineState) (why cause : Cause)
    → IsTypedStop code start log limit last why → until ≤ last.steps → IsTypedStop code start log until state cause → until ≤ state.steps
reaches code start log limit until last state why cause whole far part = go (two state.steps until)
  where
    stays : state.steps < until
        → (stuck code (world_of_state state) ≡ Some cause) ⊎ ((stuck code (world_of_state state) ≡ None) × (state.steps ≡ until) × (cause ≡ Limit)) → ⊥
    stays l (inl e) =
        let free : stuck code (world_with_keys code start log state.steps) ≡ None = whole.end.first state.steps (omega (arith, l, far)) in
        let both : Some cause ≡ None = sym e ∙ ap (λ w. stuck code w) part.end.reached ∙ free in
        cc both
    stays l (inr e) = omega (arith, l, e.1)

    go : (state.steps < until) ⊎ (until ≤ state.steps) → until ≤ state.steps
    go (inl l) = absurd (stays l part.end.cause)
    go (inr l) = l

-- a machine in the middle of a finished run is in the middle of a run of its own code with these keys
own_again : (f : Finished) (log : List Typed) (until made : ℕ) (old : Device) → log ≡ f.log → made ≡ old.state.steps
    → IsRunning (bytes (guard_of_run f.free f.program)) (start_of_run f.program f.keys) f.log until old.state.steps old
    → IsRunning (code_of old.state) (start_of_run f.program f.keys) log until made old
own_again f log until made old same begun at =
    let code : Code = bytes (guard_of_run f.free f.program) in
    let start : World = start_of_run f.program f.keys in
    let own : IsRunning (code_of old.state) start f.log until old.state.steps old
    = by_own_code code start f.log until until old.state.steps old at.within at in
    subst (λ (n : ℕ). IsRunning (code_of old.state) start log until n old) (sym begun)
    (subst (λ (l : List Typed). IsRunning (code_of old.state) start l until old.state.steps old) (sym same) own)

-- a machine that ran on from the middle of a finished run is in the middle of it, after as many steps as were asked for
pub came_again : (f : Finished) (log : List Typed) (until made : ℕ) (old new : Device) (cause : Cause) → IsStopped f → log ≡ f.log
    → made ≡ old.state.steps → until ≤ f.machine.state.steps
    → IsRunning (bytes (guard_of_run f.free f.program)) (start_of_run f.program f.keys) f.log until old.state.steps old
    → ((start : World) → IsRunning (code_of old.state) start log until made old → IsTypedStop (code_of old.state) start log until new.state cause)
    → ((start : World) → IsRunning (code_of old.state) start log until made old → until ≤ new.state.steps
    → IsRunning (code_of old.state) start log until until new)
    → IsRunning (bytes (guard_of_run f.free f.program)) (start_of_run f.program f.keys) f.log until until new
came_again f log until made old new cause stop same begun far at ran came =
    let code : Code = bytes (guard_of_run f.free f.program) in
    let start : World = start_of_run f.program f.keys in
    let given : IsRunning (code_of old.state) start log until made old = own_again f log until made old same begun at in
    let part : IsTypedStop code start f.log until new.state cause
    = subst (λ (c : Code). IsTypedStop c start f.log until new.state cause) at.code_is
    (subst (λ (l : List Typed). IsTypedStop (code_of old.state) start l until new.state cause) same (ran start given)) in
    subst (λ (c : Code). IsRunning c start f.log until until new) at.code_is
    (subst (λ (l : List Typed). IsRunning (code_of old.state) start l until until new) same
    (came start given (reaches code start f.log f.limit until f.machine.state new.state f.cause cause stop far part)))

-- its keys fit
pub fitted_again : (f : Finished) (log : List Typed) (until made steps : ℕ) (old : Device) → IsStopped f → log ≡ f.log
    → made ≡ old.state.steps → until ≤ f.machine.state.steps
    → IsRunning (bytes (guard_of_run f.free f.program)) (start_of_run f.program f.keys) f.log until old.state.steps old
    → ((start : World) → IsRunning (code_of old.state) start log until made old → IsOverfull (code_of old.state) start log until steps)
    → keys_at log steps ≢ [] → ⊥
fitted_again f log until made steps old stop same begun far at full some =
    let start : World = start_of_run f.program f.keys in
    let over : IsOverfull (bytes (guard_of_run f.free f.program)) start f.log until steps
    = subst (λ (c : Code). IsOverfull c start f.log until steps) at.code_is
    (subst (λ (l : List Typed). IsOverfull (code_of old.state) start l until steps) same (full start (own_again f log until made old same begun at))) in
    let fits = stop.fit steps (omega (arith, over.within, far)) (subst (λ (l : List Typed). keys_at l steps ≢ []) same some) in
    omega (arith, over.full, fits)

-- an observer that saw the rest of the bytes' run has seen the rest of the program's run
pub seen_again : {O : Type 0} (seen : O → Shown → O) (f : Finished) (log : List Typed) (until made : ℕ) (old new : Device) (first last : O)
    → IsSound f.program → IsStopped f → log ≡ f.log → made ≡ old.state.steps → until ≡ f.machine.state.steps → new.state.steps ≡ until
    → IsRunning (bytes (guard_of_run f.free f.program)) (start_of_run f.program f.keys) f.log until old.state.steps old
    → ((start : World) → IsRunning (code_of old.state) start log until made old
    → last ≡ observer_after seen (shown_from (world_with_keys (code_of old.state) start log) made) first (new.state.steps - made))
    → last ≡ observer_after seen (shown_from (worlds_of f) old.state.steps) first (f.machine.state.steps - old.state.steps)
unfolding worlds_of
seen_again {O} seen f log until made old new first last sound stop same begun ends came at saw =
    let code : Code = bytes (guard_of_run f.free f.program) in
    let start : World = start_of_run f.program f.keys in
    let worlds : ℕ → World = world_with_keys code start f.log in
    let means : ℕ → World = world_with_keys (code_of_run f.free f.program) start f.log in
    let steps : ℕ = old.state.steps in
    let rest : ℕ = f.machine.state.steps - old.state.steps in
    let left : new.state.steps - made ≡ rest = omega (arith, came, ends, begun) in
    saw start (own_again f log until made old same begun at)
    ∙ ap₂ (λ (c : Code) (l : List Typed). observer_after seen (shown_from (world_with_keys c start l) made) first (new.state.steps - made)) at.code_is same
    ∙ ap₂ (λ (m n : ℕ). observer_after seen (shown_from worlds m) first n) begun left
    ∙ alike seen (shown_from worlds steps) (shown_from means steps) first rest (λ j l. ap₂ (λ (a b : World). shown_between a b)
    (world_meant f.free f.program f.keys f.log (steps + j) sound (λ k h. stop.end.first k (omega (arith, h, l))))
    (world_meant f.free f.program f.keys f.log (suc (steps + j)) sound (λ k h. stop.end.first k (omega (arith, h, l)))))

-- with the steps of the next keys
pub rerunning : (f : Finished) (log : List Typed) (until end due : ℕ) (machine : Device) → log ≡ f.log → end ≡ f.machine.state.steps → until ≤ end
    → IsRunning (bytes (guard_of_run f.free f.program)) (start_of_run f.program f.keys) f.log until until machine
    → due ≤ end → (until < end → until < due) → ((k : ℕ) → until < k → k < due → keys_at log k ≡ []) → IsRerunning f machine due
rerunning f log until end due machine same last far at within next none =
    let code : Code = bytes (guard_of_run f.free f.program) in
    let start : World = start_of_run f.program f.keys in record {
      at = subst (λ (n : ℕ). IsRunning code start f.log f.machine.state.steps n machine) (sym at.steps)
          (with_limit code start f.log until f.machine.state.steps until machine (omega (arith, far, last)) at);
      within = omega (arith, within, last);
      next = λ l. omega (arith, at.steps, next (omega (arith, l, at.steps, last)));
      none = λ k l h. ap (λ (typed : List Typed). keys_at typed k) (sym same) ∙ none k (omega (arith, l, at.steps)) h;
    }

-- the machine is in a world of the run
pub world_again : (f : Finished) (machine : Device) (due : ℕ) → IsSound f.program → IsRerunning f machine due
    → world_of_state machine.state ≡ worlds_of f machine.state.steps
unfolding worlds_of
world_again f machine due sound is =
    is.at.reached ∙ world_meant f.free f.program f.keys f.log machine.state.steps sound is.at.first

-- a step that is executed again
module _ (f : Finished) (old : Device) (due : ℕ) (stop : IsStopped f) (is : IsRerunning f old due) (more : old.state.steps < f.machine.state.steps) where
  abbrev pub code : Code
  code = bytes (guard_of_run f.free f.program)

  abbrev pub start : World
  start = start_of_run f.program f.keys

  pub no_cause : f.machine.state.steps < 4294967296 → None ≡ cause_of old.state
  no_cause low =
      cause_none old
      (ap₂ (λ (c : Code) (w : World). stuck c w) is.at.code_is is.at.reached ∙ stop.end.first old.state.steps more) (omega (arith, more, low))

  module _ (mid : Device) (step : IsStep old mid) where
    before : world_of_state mid.state ≡ world_before_keys code start f.log mid.state.steps
    before =
        let e : suc old.state.steps ≡ mid.state.steps = omega (arith, step.steps) in
        step.world ∙ ap₂ (λ (c : Code) (w : World). next c w) is.at.code_is is.at.reached
        ∙ sym (world-next code start f.log old.state.steps) ∙ ap (λ (n : ℕ). world_before_keys code start f.log n) e

    mid_code : code_of mid.state ≡ code
    mid_code = ap (λ g. bytes g) step.guard ∙ is.at.code_is

    running : (new : Device) → new.state.steps ≡ mid.state.steps → code_of new.state ≡ code
        → world_of_state new.state ≡ world_with_keys code start f.log new.state.steps
        → IsRunning code start f.log f.machine.state.steps new.state.steps new
    running new steps code_is reached = record {
      within = omega (arith, steps, step.steps, more);
      steps = refl;
      code_is = code_is;
      reached = reached;
      first = λ k l. stop.end.first k (omega (arith, l, steps, step.steps, more));
      fit = λ k l some. stop.fit k (omega (arith, l, steps, step.steps, more)) some;
    }

    -- no key is typed after it
    pub passed : mid.state.steps ≢ due → IsRerunning f mid due
    passed other =
        let low : mid.state.steps < due = omega (arith, other, step.steps, is.next more) in
        let none : keys_at f.log mid.state.steps ≡ [] = is.none mid.state.steps (omega (arith, step.steps)) low in record {
          at = running mid refl mid_code (before ∙ sym (world-none code start f.log mid.state.steps none));
          within = is.within;
          next = λ _. low;
          none = λ k l h. is.none k (omega (arith, l, step.steps)) h;
        }

    -- the keys that are typed after it fit
    pub fitted : mid.state.steps ≡ due → length mid.state.bus.devices.keys ≤ 4096
        → 4096 < length mid.state.bus.devices.keys + length (keys_at f.log due) → ⊥
    fitted here room full = go (keys_at f.log due) refl
      where
        go : (keys : List ℕ) → keys_at f.log due ≡ keys → ⊥
        go [] e = omega (arith, room, full, ap (λ (l : List ℕ). length l) e)
        go (key ∷ keys) e =
            let some : keys_at f.log due ≢ [] = λ none. (let both : key ∷ keys ≡ [] = sym e ∙ none in cc both) in
            let holds : world_of_state mid.state ≡ world_before_keys code start f.log due
            = before ∙ ap (λ (n : ℕ). world_before_keys code start f.log n) here in
            let fits : waiting (world_with_keys code start f.log due) ≤ 4096 = stop.fit due is.within some in
            omega (arith, fits, full, waiting_with code start f.log due mid holds)

    -- they are typed
    pub typed_on : (log : List Typed) (new : Device) (end after : ℕ) → log ≡ f.log → end ≡ f.machine.state.steps → mid.state.steps ≡ due
        → new ≡ with_keys (keys_at log due) mid → after ≤ end → (due < end → due < after)
        → ((k : ℕ) → due < k → k < after → keys_at log k ≡ []) → IsRerunning f new after
    typed_on log new end after same last here made within next none =
        let typed_is : new ≡ with_keys (keys_at f.log mid.state.steps) mid
        = made ∙ ap₂ (λ (l : List Typed) (n : ℕ). with_keys (keys_at l n) mid) same (sym here) in
        let holds : world_of_state (with_keys (keys_at f.log mid.state.steps) mid).state ≡ world_with_keys code start f.log mid.state.steps
        = keys_hold (keys_at f.log mid.state.steps) mid ∙ ap (λ w. typed (keys_at f.log mid.state.steps) w) before
        ∙ sym (world-typed code start f.log mid.state.steps) in
        let steps : new.state.steps ≡ mid.state.steps = ap (λ (d : Device). d.state.steps) typed_is in record {
          at = subst (λ (d : Device). IsRunning code start f.log f.machine.state.steps d.state.steps d) (sym typed_is)
              (running (with_keys (keys_at f.log mid.state.steps) mid) refl mid_code holds);
          within = omega (arith, within, last);
          next = λ l. omega (arith, steps, here, last, l, next (omega (arith, steps, here, last, l)));
          none = λ k l h. ap (λ (typed : List Typed). keys_at typed k) (sym same) ∙ none k (omega (arith, steps, here, l)) h;
        }

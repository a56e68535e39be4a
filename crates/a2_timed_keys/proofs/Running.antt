-- A machine in the middle of a run in which keys are typed.
use Rattle.std.proofs.Common.{◌≡◌, ◌≢◌, ◌⊎◌, inl, inr, ℕ, suc, ◌+◌, ◌-◌, ◌^◌, ◌<◌, ◌≤◌, List, [], length, refl, sym, ap, ap₂, ◌∙◌, subst, arith, Some, None}
use Rattle.a2_bus.specs.View.{memory_of}
use Rattle.a2_services.specs.World.{World}
use Rattle.a2_machine.specs.declared.causes.Cause.{Cause}
use Rattle.a2_machine.specs.declared.causes.Cause.TheVariants.{Limit}
use Rattle.a2_machine.specs.Meaning.{Code, stuck, world_at}
use Rattle.a2_machine.specs.ByteRun.{bytes}
use Rattle.a2_machine.specs.State.{Device, MachineState, world_of_state, code_of, steps_left, IsMachineRun}
use Rattle.a2_timed_keys.specs.declared.strokes.Typed.{Typed}
use Rattle.a2_timed_keys.specs.Typed.{keys_at, typed, with_keys, world_before_keys, world_with_keys, IsTypedStop, IsOverfull, IsRunning, IsCopy}
use Rattle.a2_timed_keys.proofs.Worlds.{waiting, waiting-typed, world-start, world-typed, before-more, with-more}

pub keys_hold : (keys : List ℕ) (device : Device) → world_of_state (with_keys keys device).state ≡ typed keys (world_of_state device.state)
unfolding typed memory_of
keys_hold keys device = refl

waiting_is : (device : Device) → waiting (world_of_state device.state) ≡ length device.state.bus.devices.keys
unfolding memory_of
waiting_is device = refl

-- as many keys wait in the world that a machine represents
fit_here : (code : Code) (start : World) (log : List Typed) (n k : ℕ) (device : Device) → k ≡ n → world_of_state device.state ≡ world_with_keys code start log n
    → length device.state.bus.devices.keys ≤ 4096 → waiting (world_with_keys code start log k) ≤ 4096
fit_here code start log n k device e holds room =
    subst (λ m. m ≤ 4096)
    (sym (waiting_is device) ∙ ap (λ w. waiting w) holds ∙ ap (λ i. waiting (world_with_keys code start log i)) (sym e)) room

-- at the start
pub running_start : (old new : Device) (log : List Typed) (limit : ℕ) → old.state.steps ≡ 0 → new ≡ with_keys (keys_at log 0) old
    → length new.state.bus.devices.keys ≤ 4096 → IsRunning (code_of old.state) (world_of_state old.state) log limit 0 new
running_start old new log limit steps is room =
    let here : Device = with_keys (keys_at log 0) old in
    let holds : world_of_state here.state ≡ world_with_keys (code_of old.state) (world_of_state old.state) log 0
    = keys_hold (keys_at log 0) old ∙ sym (world-start (code_of old.state) (world_of_state old.state) log) in
    let fits : length here.state.bus.devices.keys ≤ 4096 = subst (λ (d : Device). length d.state.bus.devices.keys ≤ 4096) is room in
    subst (λ (d : Device). IsRunning (code_of old.state) (world_of_state old.state) log limit 0 d) (sym is) (record {
      within = omega arith;
      steps = steps;
      code_is = refl;
      reached = holds;
      first = λ k l. absurd (omega (arith, l));
      fit = λ k l some. fit_here (code_of old.state) (world_of_state old.state) log 0 k here (omega (arith, l)) holds fits;
    })

-- how many keys wait after those that are typed
pub waiting_with : (code : Code) (start : World) (log : List Typed) (steps : ℕ) (device : Device)
    → world_of_state device.state ≡ world_before_keys code start log steps
    → waiting (world_with_keys code start log steps) ≡ length device.state.bus.devices.keys + length (keys_at log steps)
waiting_with code start log steps device holds =
    ap (λ w. waiting w) (world-typed code start log steps) ∙ waiting-typed (keys_at log steps) (world_before_keys code start log steps)
    ∙ ap (λ w. waiting w + length (keys_at log steps)) (sym holds) ∙ ap (λ n. n + length (keys_at log steps)) (waiting_is device)

overfull : (code : Code) (start : World) (log : List Typed) (limit steps : ℕ) (device : Device) → steps ≤ limit
    → ((k : ℕ) → k < steps → stuck code (world_with_keys code start log k) ≡ None)
    → world_of_state device.state ≡ world_before_keys code start log steps
    → 4096 < length device.state.bus.devices.keys + length (keys_at log steps) → IsOverfull code start log limit steps
overfull code start log limit steps device within first holds full =
    record { within = within; first = first; full = subst (λ n. 4096 < n) (sym (waiting_with code start log steps device holds)) full }

pub overfull_start : (old : Device) (log : List Typed) (limit : ℕ) → 4096 < length old.state.bus.devices.keys + length (keys_at log 0)
    → IsOverfull (code_of old.state) (world_of_state old.state) log limit 0
unfolding world_before_keys
overfull_start old log limit full =
    overfull (code_of old.state) (world_of_state old.state) log limit 0 old (omega arith) (λ k l. absurd (omega (arith, l))) refl full

pub two : (m n : ℕ) → (m < n) ⊎ (n ≤ m)
two m n = grind (arith)

up_to : (m n : ℕ) → (m ≤ n) ⊎ (n < m)
up_to m n = grind (arith)

module _ (code : Code) (start : World) (log : List Typed) (limit made until : ℕ) (old new : Device) (cause : Cause)
    (low : limit < 2 ^ 32) (more : made < until) (within : until ≤ limit)
    (none : (k : ℕ) → made < k → k < until → keys_at log k ≡ [])
    (run : IsMachineRun (until - made) old new cause) (at : IsRunning code start log limit made old) where
  count : ℕ
  count = new.state.steps - old.state.steps

  new_is : new.state.steps ≡ made + count
  unfolding count
  new_is = omega (arith, run.more, at.steps)

  few : count ≤ until - made
  unfolding count
  few = omega (arith, run.end.within)

  reached_is : world_of_state new.state ≡ world_at code (world_with_keys code start log made) count
  unfolding count
  reached_is = run.end.reached ∙ ap₂ (λ c w. world_at c w (new.state.steps - old.state.steps)) at.code_is at.reached

  new_code : code_of new.state ≡ code
  new_code = ap (λ g. bytes g) run.guard ∙ at.code_is

  going : (i : ℕ) → (i < made) ⊎ (made ≤ i) → i < new.state.steps → stuck code (world_with_keys code start log i) ≡ None
  unfolding count
  going i (inl l) m = at.first i l
  going i (inr l) m =
      let k : ℕ = i - made in
      let is : i ≡ made + k = omega (arith, l) in
      let lt : k < new.state.steps - old.state.steps = omega (arith, l, m, new_is) in
      let below : i < until = omega (arith, m, new_is, few, more) in
      ap (λ w. stuck code w) (with-more code start log made k i is (λ j h g. none j h (omega (arith, g, below))))
      ∙ ap₂ (λ c w. stuck c (world_at c w k)) (sym at.code_is) (sym at.reached)
      ∙ run.end.first k lt

  fitting : (i : ℕ) → (i ≤ made) ⊎ (made < i) → i < until → keys_at log i ≢ [] → waiting (world_with_keys code start log i) ≤ 4096
  fitting i (inl l) m some = at.fit i l some
  fitting i (inr l) m some = absurd (some (none i l m))

  -- it reached the steps where keys are typed next
  came : until ≤ new.state.steps → count ≡ until - made
  came h = omega (arith, few, new_is, h, more)

  before : until ≤ new.state.steps → world_of_state new.state ≡ world_before_keys code start log until
  before h =
      let j : ℕ = until - made - 1 in
      let is : until ≡ made + suc j = omega (arith, more) in
      let whole : count ≡ suc j = omega (arith, came h, more) in
      reached_is ∙ ap (λ n. world_at code (world_with_keys code start log made) n) whole ∙ sym (before-more code start log made j until is none)

  going_on : (after : Device) → until ≤ new.state.steps → after ≡ with_keys (keys_at log until) new → length after.state.bus.devices.keys ≤ 4096
      → IsRunning code start log limit until after
  going_on after h is room =
      let here : Device = with_keys (keys_at log until) new in
      let holds : world_of_state here.state ≡ world_with_keys code start log until
      = keys_hold (keys_at log until) new ∙ ap (λ w. typed (keys_at log until) w) (before h) ∙ sym (world-typed code start log until) in
      let fits : length here.state.bus.devices.keys ≤ 4096 = subst (λ (d : Device). length d.state.bus.devices.keys ≤ 4096) is room in
      subst (λ (d : Device). IsRunning code start log limit until d) (sym is) (record {
        within = within;
        steps = omega (arith, new_is, came h, more);
        code_is = new_code;
        reached = holds;
        first = λ k l. going k (two k made) (omega (arith, l, h));
        fit = λ k l some. last k (two k until) l some here holds fits;
      })
    where
      last : (k : ℕ) → (k < until) ⊎ (until ≤ k) → k ≤ until → keys_at log k ≢ [] → (here : Device)
          → world_of_state here.state ≡ world_with_keys code start log until → length here.state.bus.devices.keys ≤ 4096
          → waiting (world_with_keys code start log k) ≤ 4096
      last k (inl l) m some here holds fits = fitting k (up_to k made) l some
      last k (inr l) m some here holds fits = fit_here code start log until k here (omega (arith, l, m)) holds fits

  pub running_on : (after : Device) (due : ℕ) → due ≡ until → due ≤ new.state.steps → after ≡ with_keys (keys_at log due) new
      → length after.state.bus.devices.keys ≤ 4096 → IsRunning code start log limit until after
  running_on after due e h is room = going_on after (omega (arith, e, h)) (is ∙ ap (λ n. with_keys (keys_at log n) new) e) room

  overfull_until : until ≤ new.state.steps → 4096 < length new.state.bus.devices.keys + length (keys_at log until)
      → IsOverfull code start log limit until
  overfull_until h full = overfull code start log limit until new within (λ k l. going k (two k made) (omega (arith, l, h))) (before h) full

  pub overfull_on : (due : ℕ) → due ≡ until → due ≤ new.state.steps → 4096 < length new.state.bus.devices.keys + length (keys_at log due)
      → IsOverfull code start log limit due
  overfull_on due e h full =
      subst (λ n. IsOverfull code start log limit n) (sym e)
      (overfull_until (omega (arith, e, h)) (subst (λ n. 4096 < length new.state.bus.devices.keys + length (keys_at log n)) e full))

  -- it stopped before that
  pub stopped : new.state.steps < until → IsTypedStop code start log limit new.state cause
  unfolding count
  stopped h = record {
    end = record {
      within = omega (arith, h, within);
      reached = reached_is ∙ sym (with-more code start log made count new.state.steps new_is (λ k l g. none k l (omega (arith, g, h))));
      first = λ k l. going k (two k made) l;
      cause = go run.end.cause;
    };
    fit = λ k l some. fitting k (up_to k made) (omega (arith, l, h)) some;
  }
    where
      go : (stuck (code_of old.state) (world_of_state new.state) ≡ Some cause)
          ⊎ ((stuck (code_of old.state) (world_of_state new.state) ≡ None) × (new.state.steps - old.state.steps ≡ steps_left (until - made) old.state) × (cause ≡ Limit))
          → (stuck code (world_of_state new.state) ≡ Some cause)
          ⊎ ((stuck code (world_of_state new.state) ≡ None) × (new.state.steps ≡ limit) × (cause ≡ Limit))
      go (inl e) = inl (ap (λ c. stuck c (world_of_state new.state)) (sym at.code_is) ∙ e)
      go (inr e) = absurd (omega (arith, e.1, h, at.steps, low, within, more, run.more))

-- all steps of the limit were executed
pub stopped_last : (code : Code) (start : World) (log : List Typed) (limit made : ℕ) (old new : Device) (cause : Cause) → limit ≤ made
    → IsMachineRun 0 old new cause → IsRunning code start log limit made old → IsTypedStop code start log limit new.state cause
stopped_last code start log limit made old new cause all run at = record {
  end = record {
    within = omega (arith, none, at.steps, at.within);
    reached = ap (λ (d : Device). world_of_state d.state) same ∙ at.reached ∙ ap (λ n. world_with_keys code start log n) steps;
    first = λ k l. at.first k (omega (arith, l, steps));
    cause = go run.end.cause;
  };
  fit = λ k l some. at.fit k (omega (arith, l, steps)) some;
}
  where
    none : new.state.steps ≡ old.state.steps
    none = omega (arith, run.more, run.end.within)

    same : new ≡ old
    same = run.none none

    steps : made ≡ new.state.steps
    steps = omega (arith, none, at.steps)

    go : (stuck (code_of old.state) (world_of_state new.state) ≡ Some cause)
        ⊎ ((stuck (code_of old.state) (world_of_state new.state) ≡ None) × (new.state.steps - old.state.steps ≡ steps_left 0 old.state) × (cause ≡ Limit))
        → (stuck code (world_of_state new.state) ≡ Some cause)
        ⊎ ((stuck code (world_of_state new.state) ≡ None) × (new.state.steps ≡ limit) × (cause ≡ Limit))
    go (inl e) = inl (ap (λ c. stuck c (world_of_state new.state)) (sym at.code_is) ∙ e)
    go (inr e) = inr (
      ap (λ c. stuck c (world_of_state new.state)) (sym at.code_is) ∙ e.0,
      omega (arith, none, at.steps, at.within, all),
      e.2,
    )

pub came_last : (code : Code) (start : World) (log : List Typed) (limit made : ℕ) (old new : Device) (cause : Cause) → limit ≤ made
    → IsMachineRun 0 old new cause → IsRunning code start log limit made old → IsRunning code start log limit limit new
came_last code start log limit made old new cause all run at =
    subst (λ (d : Device). IsRunning code start log limit limit d) (sym (run.none (omega (arith, run.more, run.end.within))))
    (subst (λ (n : ℕ). IsRunning code start log limit n old) (omega (arith, all, at.within)) at)

-- it runs on with another limit
pub with_limit : (code : Code) (start : World) (log : List Typed) (limit until made : ℕ) (machine : Device) → made ≤ until
    → IsRunning code start log limit made machine → IsRunning code start log until made machine
with_limit code start log limit until made machine within at = record {
  within = within;
  steps = at.steps;
  code_is = at.code_is;
  reached = at.reached;
  first = at.first;
  fit = at.fit;
}

-- by the code that it has
pub by_own_code : (code : Code) (start : World) (log : List Typed) (limit until made : ℕ) (machine : Device) → made ≤ until
    → IsRunning code start log limit made machine → IsRunning (code_of machine.state) start log until made machine
by_own_code code start log limit until made machine within at =
    subst (λ (c : Code). IsRunning c start log until made machine) (sym at.code_is) (with_limit code start log limit until made machine within at)

-- a machine in the same state is in the middle of the same run
pub same_state : (code : Code) (start : World) (log : List Typed) (limit made : ℕ) (a b : Device) → b.state ≡ a.state → made ≤ limit
    → a.state.steps ≡ made → IsCopy code start log a → IsRunning code start log limit made b
same_state code start log limit made a b e within steps is = record {
  within = within;
  steps = ap (λ (s : MachineState). s.steps) e ∙ steps;
  code_is = ap (λ (s : MachineState). code_of s) e ∙ is.code_is;
  reached = ap (λ (s : MachineState). world_of_state s) e ∙ is.reached ∙ ap (λ n. world_with_keys code start log n) steps;
  first = λ k l. is.first k (omega (arith, l, steps));
  fit = λ k l some. is.fit k (omega (arith, l, steps)) some;
}

pub copy_of : (code : Code) (start : World) (log : List Typed) (a b : Device) → b.state ≡ a.state → IsCopy code start log a → IsCopy code start log b
copy_of code start log a b e is =
    same_state code start log b.state.steps b.state.steps a b e (omega arith) (sym (ap (λ (s : MachineState). s.steps) e)) is

pub is_copy : (code : Code) (start : World) (log : List Typed) (limit made : ℕ) (machine : Device) → IsRunning code start log limit made machine
    → IsCopy code start log machine
is_copy code start log limit made machine at =
    let e : made ≡ machine.state.steps = sym at.steps in
    subst (λ (n : ℕ). IsRunning code start log machine.state.steps n machine) e
    (with_limit code start log limit machine.state.steps made machine (omega (arith, at.steps)) at)

-- a run that stopped before a limit stopped before a greater one
pub stopped_early : (code : Code) (start : World) (log : List Typed) (limit until : ℕ) (state : MachineState) (cause : Cause) → until ≤ limit
    → state.steps < until → IsTypedStop code start log until state cause → IsTypedStop code start log limit state cause
stopped_early code start log limit until state cause within early is = record {
  end = record { within = omega (arith, within, early); reached = is.end.reached; first = is.end.first; cause = go is.end.cause };
  fit = is.fit;
}
  where
    go : (stuck code (world_of_state state) ≡ Some cause)
        ⊎ ((stuck code (world_of_state state) ≡ None) × (state.steps ≡ until) × (cause ≡ Limit))
        → (stuck code (world_of_state state) ≡ Some cause)
        ⊎ ((stuck code (world_of_state state) ≡ None) × (state.steps ≡ limit) × (cause ≡ Limit))
    go (inl e) = inl e
    go (inr e) = absurd (omega (arith, e.1, early))

pub overfull_early : (code : Code) (start : World) (log : List Typed) (limit until steps : ℕ) → until ≤ limit
    → IsOverfull code start log until steps → IsOverfull code start log limit steps
overfull_early code start log limit until steps within is =
    record { within = omega (arith, within, is.within); first = is.first; full = is.full }

-- what a run to a smaller limit gives, by the code of the machine that it began with, is of the whole run
module _ (code : Code) (start : World) (log : List Typed) (limit made until : ℕ) (old : Device) (within : until ≤ limit)
    (at : IsRunning code start log limit made old) where
  pub running_part : (new : Device) → IsRunning (code_of old.state) start log until until new → IsRunning code start log limit until new
  running_part new is =
      subst (λ (c : Code). IsRunning c start log limit until new) at.code_is (with_limit (code_of old.state) start log until limit until new within is)

  pub stopped_part : (state : MachineState) (cause : Cause) → state.steps < until → IsTypedStop (code_of old.state) start log until state cause
      → IsTypedStop code start log limit state cause
  stopped_part state cause early is =
      stopped_early code start log limit until state cause within early (subst (λ (c : Code). IsTypedStop c start log until state cause) at.code_is is)

  pub overfull_part : (steps : ℕ) → IsOverfull (code_of old.state) start log until steps → IsOverfull code start log limit steps
  overfull_part steps is =
      overfull_early code start log limit until steps within (subst (λ (c : Code). IsOverfull c start log until steps) at.code_is is)

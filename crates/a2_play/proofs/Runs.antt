-- A program that is played, after a key and after a run.
use Rattle.std.proofs.lemmas.List.Elements.{All-append}
use Rattle.std.proofs.Common.{◌≡◌, ◌⊎◌, inl, inr, ℕ, zero, suc, ◌+◌, ◌-◌, ◌<◌, ◌≤◌, List, [], ◌∷◌, ◌++◌, length, get_or, Bool, refl, sym, ap, ap₂, ◌∙◌, subst, arith, Some, None}
use Rattle.a2_asm.specs.Assembled.{Assembled}
use Rattle.a2_bus.specs.View.{memory_of}
use Rattle.a2_machine.specs.declared.causes.Cause.{Cause}
use Rattle.a2_machine.specs.declared.causes.Cause.TheVariants.{Limit}
use Rattle.a2_machine.specs.Meaning.{stuck, world_at}
use Rattle.a2_machine.specs.ByteRun.{bytes}
use Rattle.a2_machine.specs.ProgramGuard.{guard_of_program}
use Rattle.a2_machine.specs.declared.Stop.{Stop}
use Rattle.a2_machine.specs.declared.Stop.TheVariants as stop
use Rattle.a2_machine.specs.State.{Device, MachineState, world_of_state, code_of, steps_left, AreSteps, IsMachineRun, IsRunTo, EndsBy}
use Rattle.a2_timed_keys.specs.declared.strokes.Typed.{Typed}
use Rattle.a2_timed_keys.specs.Typed.{keys_at, typed}
use Rattle.a2_timed_keys.proofs.Worlds.{waiting, waiting-typed}
use Rattle.a2_play.specs.Played.{IsPlayed, IsStuckBy, Fits, code_of_play, start, with_key, world_with_keys}
use Rattle.a2_play.proofs.Keys.{NoneAbove-push, NoneAbove-weaker, keys_at-past}
use Rattle.a2_play.proofs.Worlds.{world-more, world-typed, world-earlier, world-start-at, push-before}

key_holds : (key : ℕ) (device : Device) → world_of_state (with_key key device).state ≡ typed (key ∷ []) (world_of_state device.state)
unfolding typed memory_of
key_holds key device = refl

pub waiting_is : (device : Device) → waiting (world_of_state device.state) ≡ length device.state.bus.devices.keys
unfolding memory_of
waiting_is device = refl

pub code_is : (program : Assembled) (state : MachineState) → state.guard ≡ Some (guard_of_program program) → code_of state ≡ code_of_play program
unfolding code_of_play
code_is program state e = ap (λ g. bytes g) e

-- at the start
pub played_start : (program : Assembled) (machine : Device) (log : List Typed) → world_of_state machine.state ≡ start program → machine.state.steps ≡ 0
    → machine.state.guard ≡ Some (guard_of_program program) → log ≡ [] → IsPlayed program (record { machine = machine; log = log })
played_start program machine log holds steps guarded empty = subst (λ (l : List Typed). IsPlayed program (record { machine = machine; log = l })) (sym empty) (record {
  holds = holds ∙ sym (world-start-at program) ∙ sym (ap (λ n. world_with_keys program [] n) steps);
  went = λ k l. absurd (omega (arith, steps, l));
  guarded = guarded;
  past = tt;
  few = omega (arith, steps);
  codes = λ k d l. absurd (omega (arith, l));
  fits = λ k. inl refl;
})

code-one : (t : Typed) → t.key < 128 → (k : ℕ) (d : Typed) → k < length (t ∷ []) → (get_or (t ∷ []) k d).key < 128
code-one t h zero d l = h
code-one t h (suc k) d l = absurd (omega (arith, l))

three : (m n : ℕ) → (m < n) ⊎ ((m ≡ n) ⊎ (n < m))
three m n = grind (arith)

-- after a key
module _ (program : Assembled) (machine : Device) (log : List Typed) (key : ℕ) (low : key < 128)
    (room : length machine.state.bus.devices.keys < 4096) (at : IsPlayed program (record { machine = machine; log = log })) where
  noted : Typed
  noted = record { steps = machine.state.steps; key = key }

  holds_key : world_of_state (with_key key machine).state ≡ world_with_keys program (log ++ noted ∷ []) machine.state.steps
  unfolding noted
  holds_key = key_holds key machine ∙ ap (λ w. typed (key ∷ []) w) at.holds ∙ sym (world-typed program log noted)

  waits_key : waiting (world_with_keys program (log ++ noted ∷ []) machine.state.steps) ≡ length machine.state.bus.devices.keys + 1
  unfolding noted
  waits_key =
      ap (λ w. waiting w) (sym holds_key) ∙ ap (λ w. waiting w) (key_holds key machine)
      ∙ waiting-typed (key ∷ []) (world_of_state machine.state) ∙ ap (λ n. n + 1) (waiting_is machine)

  fits_key : (k : ℕ) → (k < machine.state.steps) ⊎ ((k ≡ machine.state.steps) ⊎ (machine.state.steps < k)) → Fits program (log ++ noted ∷ []) k
  unfolding noted
  fits_key k (inl l) = go (at.fits k)
    where
      go : Fits program log k → Fits program (log ++ noted ∷ []) k
      go (inl e) = inl (push-before program log noted k l ∙ e)
      go (inr f) = inr (subst (λ w. waiting w ≤ 4096) (sym (world-earlier program log noted k l)) f)
  fits_key k (inr (inl e)) =
      inr (subst (λ n. waiting (world_with_keys program (log ++ noted ∷ []) n) ≤ 4096) (sym e) (omega (arith, waits_key, room)))
  fits_key k (inr (inr l)) =
      inl (keys_at-past (log ++ noted ∷ []) machine.state.steps k (NoneAbove-push log noted machine.state.steps at.past (omega arith)) l)

  pub played_key : IsPlayed program (record { machine = with_key key machine; log = log ++ record { steps = machine.state.steps; key = key } ∷ [] })
  unfolding noted
  played_key = record {
    holds = holds_key;
    went = λ k l. ap (λ w. stuck (code_of_play program) w) (world-earlier program log noted k l) ∙ at.went k l;
    guarded = at.guarded;
    past = NoneAbove-push log noted machine.state.steps at.past (omega arith);
    few = at.few;
    codes = All-append (λ (t : Typed). t.key < 128) log (noted ∷ []) at.codes (λ k d l. code-one noted low k d l);
    fits = λ k. fits_key k (three k machine.state.steps);
  }

pub played_noted : (program : Assembled) (old new : Device) (before log after : List Typed) (key n : ℕ) → key < 128 → length old.state.bus.devices.keys < 4096
    → IsPlayed program (record { machine = old; log = before }) → new ≡ with_key key old → log ≡ before → n ≡ old.state.steps
    → after ≡ log ++ record { steps = n; key = key } ∷ [] → IsPlayed program (record { machine = new; log = after })
played_noted program old new before log after key n low room at is same steps noted =
    let pushed : after ≡ before ++ record { steps = old.state.steps; key = key } ∷ []
    = noted ∙ ap₂ (λ (l : List Typed) (m : ℕ). l ++ (let t : Typed = record { steps = m; key = key } in t) ∷ []) same steps in
    subst (λ (d : Device). IsPlayed program (record { machine = d; log = after })) (sym is)
    (subst (λ (l : List Typed). IsPlayed program (record { machine = with_key key old; log = l })) (sym pushed)
    (played_key program old before key low room at))

pub two : (m n : ℕ) → (m < n) ⊎ (n ≤ m)
two m n = grind (arith)

-- after a run
pub played_run : (program : Assembled) (old new : Device) (log : List Typed) (limit : ℕ) (cause : Cause) → IsMachineRun limit old new cause
    → IsPlayed program (record { machine = old; log = log }) → IsPlayed program (record { machine = new; log = log })
played_run program old new log limit cause run at =
    let from : ℕ = old.state.steps in
    let count : ℕ = new.state.steps - old.state.steps in
    let sum : new.state.steps ≡ from + count = omega (arith, run.more) in
    let code : code_of old.state ≡ code_of_play program = code_is program old.state at.guarded in
    let reached : (k m : ℕ) → m ≡ from + k → world_at (code_of old.state) (world_of_state old.state) k ≡ world_with_keys program log m
    = λ k m e. ap₂ (λ c w. world_at c w k) code at.holds ∙ sym (world-more program log from k m at.past e) in
    record {
      holds = run.end.reached ∙ reached count new.state.steps sum;
      went = λ i l. going i (two i from) l;
      guarded = run.guard ∙ at.guarded;
      past = NoneAbove-weaker log from new.state.steps run.more at.past;
      few = omega (arith, at.few, run.end.within, run.more);
      codes = at.codes;
      fits = at.fits;
    }
  where
    going : (i : ℕ) → (i < old.state.steps) ⊎ (old.state.steps ≤ i) → i < new.state.steps
        → stuck (code_of_play program) (world_with_keys program log i) ≡ None
    going i (inl l) m = at.went i l
    going i (inr l) m =
        let k : ℕ = i - old.state.steps in
        let is : i ≡ old.state.steps + k = omega (arith, l) in
        let within : k < new.state.steps - old.state.steps = omega (arith, l, m) in
        let code : code_of old.state ≡ code_of_play program = code_is program old.state at.guarded in
        ap (λ w. stuck (code_of_play program) w) (world-more program log old.state.steps k i at.past is)
        ∙ ap₂ (λ c w. stuck c (world_at c w k)) (sym code) (sym at.holds)
        ∙ run.end.first k within

-- why a run ended
pub stuck_by : (limit : ℕ) (old new : Device) (cause : Cause) → IsMachineRun limit old new cause → IsStuckBy new.state (Some cause)
stuck_by limit old new cause run = go run.end.cause
  where
    go : (stuck (code_of old.state) (world_of_state new.state) ≡ Some cause)
        ⊎ ((stuck (code_of old.state) (world_of_state new.state) ≡ None) × (new.state.steps - old.state.steps ≡ steps_left limit old.state) × (cause ≡ Limit))
        → (cause ≡ Limit) ⊎ (stuck (code_of new.state) (world_of_state new.state) ≡ Some cause)
    go (inl e) = inr (ap (λ g. stuck (bytes g) (world_of_state new.state)) run.guard ∙ e)
    go (inr e) = inl e.2

-- a run that ends at a breakpoint, or like any other
pub played_steps : (program : Assembled) (old new : Device) (log : List Typed) (count : ℕ) → AreSteps old new count → count ≤ steps_left count old.state
    → IsPlayed program (record { machine = old; log = log }) → IsPlayed program (record { machine = new; log = log })
played_steps program old new log count steps few at =
    let from : ℕ = old.state.steps in
    let code : code_of old.state ≡ code_of_play program = code_is program old.state at.guarded in
    let reached : (k m : ℕ) → m ≡ from + k → world_at (code_of old.state) (world_of_state old.state) k ≡ world_with_keys program log m
    = λ k m e. ap₂ (λ c w. world_at c w k) code at.holds ∙ sym (world-more program log from k m at.past e) in
    record {
      holds = steps.reached ∙ reached count new.state.steps steps.steps;
      went = λ i l. going i (two i from) l;
      guarded = steps.guard ∙ at.guarded;
      past = NoneAbove-weaker log from new.state.steps (omega (arith, steps.steps)) at.past;
      few = omega (arith, at.few, few, steps.steps);
      codes = at.codes;
      fits = at.fits;
    }
  where
    going : (i : ℕ) → (i < old.state.steps) ⊎ (old.state.steps ≤ i) → i < new.state.steps
        → stuck (code_of_play program) (world_with_keys program log i) ≡ None
    going i (inl l) m = at.went i l
    going i (inr l) m =
        let k : ℕ = i - old.state.steps in
        let is : i ≡ old.state.steps + k = omega (arith, l) in
        let within : k < count = omega (arith, l, m, steps.steps) in
        let code : code_of old.state ≡ code_of_play program = code_is program old.state at.guarded in
        ap (λ w. stuck (code_of_play program) w) (world-more program log old.state.steps k i at.past is)
        ∙ ap₂ (λ c w. stuck c (world_at c w k)) (sym code) (sym at.holds)
        ∙ steps.going k within

pub played_run_to : (program : Assembled) (is_breakpoint : ℕ → Bool) (old new : Device) (log : List Typed) (limit : ℕ) (why : Stop)
    → IsRunTo is_breakpoint limit old new why
    → IsPlayed program (record { machine = old; log = log }) → IsPlayed program (record { machine = new; log = log })
played_run_to program is_breakpoint old new log limit why run at = go why run.ends
  where
    go : (s : Stop) → EndsBy limit old new (new.state.steps - old.state.steps) s → IsPlayed program (record { machine = new; log = log })
    go (stop.Cause cause) ends = played_run program old new log limit cause ends at
    go stop.Breakpoint ends = played_steps program old new log (new.state.steps - old.state.steps) ends.2 (omega (arith, ends.1)) at

-- why such a run ended
pub stuck_to : (is_breakpoint : ℕ → Bool) (limit : ℕ) (old new : Device) (why : Stop) (cause : Cause) → IsRunTo is_breakpoint limit old new why
    → why ≡ stop.Cause cause → IsStuckBy new.state (Some cause)
stuck_to is_breakpoint limit old new why cause run is =
    stuck_by limit old new cause (subst (λ (s : Stop). EndsBy limit old new (new.state.steps - old.state.steps) s) is run.ends)

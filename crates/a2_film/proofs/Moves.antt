-- The steps of a machine, and those of a finished run that is executed again.
use Rattle.std.specs.Prelude.{◌≡◌, ◌≢◌, ◌⊎◌, ℕ, zero, suc, ◌+◌, ◌-◌, ◌<◌, ◌==◌, min, List, [], ◌∷◌, ◌++◌, length, take, get_or}
use Rattle.std.specs.Prelude.{Option, Some, None, unwrap_or, if◌then◌else◌, refl}
use Rattle.std.proofs.Common.{sym, ap, ◌∙◌, subst, arith, inl, inr, length-append}
use Rattle.std.proofs.lemmas.List.{append-nil}
use Rattle.a2_bus.specs.Devices.{Devices}
use Rattle.a2_bus.proofs.Viewing.{devices_seen}
use Rattle.a2_services.specs.World.{World}
use Rattle.a2_machine.specs.declared.causes.Cause.{Cause}
use Rattle.a2_machine.specs.declared.causes.Cause.TheVariants.{Limit}
use Rattle.a2_machine.specs.ByteRun.{bytes}
use Rattle.a2_machine.specs.Meaning.{Code, stuck, next, world_at}
use Rattle.a2_machine.specs.State.{Device, world_of_state, code_of, cause_of, steps_left, IsStep, IsMachineRun}
use Rattle.a2_run.specs.Meaning.{code_of_run}
use Rattle.a2_timed_keys.specs.Finished.{Finished}
use Rattle.a2_timed_keys.specs.Rerun.{Rerunning, worlds_of, end_of}
use Rattle.a2_timed_keys.specs.Typed.{typed, keys_at, world_before_keys, world_with_keys}
use Rattle.a2_timed_keys.specs.declared.strokes.Typed.{Typed}
use Rattle.a2_timed_keys.proofs.Keys.{keys_at-more, keys_at-here, keys_at-not}
use Rattle.a2_timed_keys.proofs.Worlds.{typed-nil}
use Rattle.a2_film.specs.Changes.{course_in, change_of}
use Rattle.a2_film.specs.Rows.{row_text}
use Rattle.a2_film.specs.Runs.{Part, rows, part_of}
use Rattle.a2_film.specs.Filmed.{with_row, only, IsFilmStep, IsOver, cause_here, rest_of}
use Rattle.a2_film.proofs.Keys.{typed-keys}
use Rattle.a2_film.proofs.Windows.{here-last}

-- A machine

here-of : (d : Device) → cause_of d.state ≡ cause_here (code_of d.state) (world_of_state d.state) d.state.steps
unfolding cause_of cause_here
here-of d = refl

-- what is shown after a step that nothing forbids, and where a cause forbids it
rest-none : (code : Code) (w : World) (steps n : ℕ) → cause_here code w steps ≡ None
    → rest_of code w steps (suc n) ≡ with_row (row_text (change_of w [] (next code w))) (rest_of code (next code w) (suc steps) n)
rest-none code w steps n e = ap (λ (found : Option Cause). elim found as (λ _. Part) [
  | Some cause ↦ only cause
  | None ↦ with_row (row_text (change_of w [] (next code w))) (rest_of code (next code w) (suc steps) n)
]) e

rest-some : (code : Code) (w : World) (steps n : ℕ) (cause : Cause) → cause_here code w steps ≡ Some cause
    → rest_of code w steps n ≡ only cause
rest-some code w steps zero cause e = ap (λ (found : Option Cause). only (unwrap_or found Limit)) e
rest-some code w steps (suc n) cause e = ap (λ (found : Option Cause). elim found as (λ _. Part) [
  | Some cause ↦ only cause
  | None ↦ with_row (row_text (change_of w [] (next code w))) (rest_of code (next code w) (suc steps) n)
]) e

pub machine-step : (old new : Device) → None ≡ cause_of old.state → IsStep old new
    → IsFilmStep (world_of_state old.state) (world_of_state new.state)
    (rest_of (code_of old.state) (world_of_state old.state) old.state.steps)
    (rest_of (code_of new.state) (world_of_state new.state) new.state.steps) 0
machine-step old new free step =
    let code = code_of old.state in
    let w = world_of_state old.state in
    let one : suc old.state.steps ≡ new.state.steps = omega (arith, step.steps) in
    let same : code ≡ code_of new.state = ap bytes (sym step.guard) in record {
      code = code;
      keys = [];
      count_is = refl;
      world_is = step.world ∙ sym (typed-nil (next code w));
      row = λ n. rest-none code w old.state.steps n (sym (here-of old) ∙ sym free)
          ∙ (λ i. with_row (row_text (change_of w [] (sym step.world i))) (rest_of (same i) (sym step.world i) (one i) n));
    }

pub machine-over : (old new : Device) (cause : Cause) → Some cause ≡ cause_of old.state → new ≡ old
    → IsOver (world_of_state old.state) (world_of_state new.state)
    (rest_of (code_of old.state) (world_of_state old.state) old.state.steps)
    (rest_of (code_of new.state) (world_of_state new.state) new.state.steps)
machine-over old new cause why same =
    let found : cause_here (code_of old.state) (world_of_state old.state) old.state.steps ≡ Some cause = sym (here-of old) ∙ sym why in record {
      world_is = ap (λ (d : Device). world_of_state d.state) same;
      none = λ n. rest-some (code_of old.state) (world_of_state old.state) old.state.steps n cause found
          ∙ ap only (sym (ap (λ (d : Device). (rest_of (code_of d.state) (world_of_state d.state) d.state.steps 0).cause) same
          ∙ ap (λ (p : Part). p.cause) (rest-some (code_of old.state) (world_of_state old.state) old.state.steps 0 cause found)));
    }

pub machine-cause : (old new : Device) (cause : Cause) → IsMachineRun 0 old new cause
    → rest_of (code_of old.state) (world_of_state old.state) old.state.steps 0 ≡ only cause
unfolding world_at
machine-cause old new cause run =
    ap only (here-last (code_of old.state) (world_of_state old.state) old.state.steps
    ∙ sym (why (subst (λ (w : World). Why w) reached run.end.cause)))
  where
    none : new.state.steps - old.state.steps ≡ 0
    none = omega (arith, run.end.within)

    reached : world_of_state new.state ≡ world_of_state old.state
    reached = run.end.reached ∙ ap (world_at (code_of old.state) (world_of_state old.state)) none

    Why : World → Type 0
    Why w = (stuck (code_of old.state) w ≡ Some cause)
        ⊎ ((stuck (code_of old.state) w ≡ None) × (new.state.steps - old.state.steps ≡ steps_left 0 old.state) × (cause ≡ Limit))

    why : Why (world_of_state old.state) → cause ≡ unwrap_or (stuck (code_of old.state) (world_of_state old.state)) Limit
    why (inl is) = sym (ap (λ (found : Option Cause). unwrap_or found Limit) is)
    why (inr is) = is.2 ∙ sym (ap (λ (found : Option Cause). unwrap_or found Limit) is.0)

-- A finished run

-- so many steps of it
abbrev part : Finished → ℕ → ℕ → Part
part f k n = record { rows = rows (course_in f) k n; cause = if k + n == (end_of f).steps then f.cause else Limit }

worlds-next : (f : Finished) (k : ℕ)
    → worlds_of f (suc k) ≡ typed (keys_at f.log (suc k)) (next (code_of_run f.free f.program) (worlds_of f k))
unfolding worlds_of world_with_keys world_before_keys
worlds-next f k = refl

step-in : (f : Finished) (k count : ℕ) → k < (end_of f).steps → count ≡ length (keys_at f.log (suc k))
    → IsFilmStep (worlds_of f k) (worlds_of f (suc k)) (part_of f k) (part_of f (suc k)) count
step-in f k count low counted = record {
  code = code_of_run f.free f.program;
  keys = keys_at f.log (suc k);
  count_is = counted;
  world_is = worlds-next f k;
  row = row;
}
  where
    row : (n : ℕ) → part_of f k (suc n)
        ≡ with_row (row_text (change_of (worlds_of f k) (keys_at f.log (suc k)) (worlds_of f (suc k)))) (part_of f (suc k) n)
    row n =
        let m = min n ((end_of f).steps - suc k) in
        let all : min (suc n) ((end_of f).steps - k) ≡ suc m = omega (arith, low) in
        let there : k + suc m ≡ suc k + m = omega arith in
        ap (part f k) all
        ∙ ap (λ (i : ℕ). let p : Part = record {
          rows = rows (course_in f) k (suc m);
          cause = if i == (end_of f).steps then f.cause else Limit;
        } in p) there

pub again-step : (old new : Rerunning) (count : ℕ) → old.steps < (end_of old.run).steps → new ≡ record old { steps = suc old.steps }
    → count ≡ length (keys_at old.run.log (suc old.steps))
    → IsFilmStep (worlds_of old.run old.steps) (worlds_of new.run new.steps) (part_of old.run old.steps) (part_of new.run new.steps) count
again-step old new count low is counted =
    subst (λ (r : Rerunning). IsFilmStep (worlds_of old.run old.steps) (worlds_of r.run r.steps) (part_of old.run old.steps)
    (part_of r.run r.steps) count) (sym is) (step-in old.run old.steps count low counted)

-- if no key waits, none was typed
pub none-typed : (f : Finished) (k : ℕ) (d : Device) → world_of_state d.state ≡ worlds_of f (suc k) → length d.state.bus.devices.keys ≡ 0
    → 0 ≡ length (keys_at f.log (suc k))
none-typed f k d there none =
    let before = next (code_of_run f.free f.program) (worlds_of f k) in
    let keys : d.state.bus.devices.keys ≡ before.memory.devices.keys ++ keys_at f.log (suc k) =
    sym (ap (λ (x : Devices). x.keys) (devices_seen d.state.bus))
    ∙ ap (λ (w : World). w.memory.devices.keys) (there ∙ worlds-next f k) ∙ typed-keys (keys_at f.log (suc k)) before in
    omega (arith, none, ap (λ (l : List ℕ). length l) keys, length-append before.memory.devices.keys (keys_at f.log (suc k)))

-- one stroke more is counted, or it is typed elsewhere
pub count-here : (log : List Typed) (i steps count : ℕ) (d : Typed) → i < length log → count ≡ length (keys_at (take i log) steps)
    → (get_or log i d).steps ≡ steps → count + 1 ≡ length (keys_at (take (i + 1) log) steps)
count-here log i steps count d low was here =
    let stroke = get_or log i d in
    let all = ap (λ (l : List ℕ). length l) (keys_at-more log i steps d low
    ∙ ap (λ (l : List ℕ). keys_at (take i log) steps ++ l) (keys_at-here stroke steps here)) in
    omega (arith, was, all, length-append (keys_at (take i log) steps) (stroke.key ∷ []))

pub count-elsewhere : (log : List Typed) (i steps count : ℕ) (d : Typed) → i < length log → count ≡ length (keys_at (take i log) steps)
    → (get_or log i d).steps ≢ steps → count ≡ length (keys_at (take (i + 1) log) steps)
count-elsewhere log i steps count d low was other =
    was ∙ ap (λ (l : List ℕ). length l) (sym (keys_at-more log i steps d low
    ∙ ap (λ (l : List ℕ). keys_at (take i log) steps ++ l) (keys_at-not (get_or log i d) steps other)
    ∙ append-nil (keys_at (take i log) steps)))

-- What a film shows of a machine's run.
use Rattle.std.specs.Prelude.{◌≡◌, ◌⊎◌, ℕ, zero, suc, ◌+◌, ◌<◌, ◌≤◌, nat_le, Bool, true, false, List, [], ◌++◌, Option, Some, None}
use Rattle.std.specs.Prelude.{unwrap_or, refl}
use Rattle.std.proofs.Common.{sym, ap, ap₂, ◌∙◌, subst, arith, inl, inr}
use Rattle.std.proofs.lemmas.Bool.Decides.{nat_tests}
use Rattle.a2_text.specs.FirstError.{◌otherwise◌, error_if}
use Rattle.a2_services.specs.World.{World}
use Rattle.a2_machine.specs.declared.causes.Cause.{Cause}
use Rattle.a2_machine.specs.declared.causes.Cause.TheVariants.{Limit}
use Rattle.a2_machine.specs.Meaning.{Code, stuck, next, world_at}
use Rattle.a2_machine.specs.State.{most_steps}
use Rattle.a2_film.specs.Changes.{change_of, course_of, change_at}
use Rattle.a2_film.specs.Rows.{row_text}
use Rattle.a2_film.specs.Runs.{Part, rows, IsLimited}
use Rattle.a2_film.specs.Filmed.{with_row, only, cause_here, rest_of}

-- the worlds of a run from its second world on
shift : (code : Code) (start : World) (k : ℕ) → world_at code (next code start) k ≡ world_at code start (suc k)
unfolding world_at
shift code start zero = refl
shift code start (suc k) = ap (next code) (shift code start k)

shift-rows : (code : Code) (start : World) (from n : ℕ)
    → rows (course_of code (next code start)) from n ≡ rows (course_of code start) (suc from) n
shift-rows code start from zero = refl
shift-rows code start from (suc n) =
    ap₂ (λ (v w : World). row_text (change_of v [] w) ++ rows (course_of code (next code start)) (suc from) n)
    (shift code start from) (shift code start (suc from))
    ∙ ap (λ (l : List ℕ). row_text (change_at (course_of code start) (suc from)) ++ l) (shift-rows code start (suc from) n)

first_row : (code : Code) (start : World) (n : ℕ)
    → row_text (change_of start [] (next code start)) ++ rows (course_of code (next code start)) 0 n
    ≡ rows (course_of code start) 0 (suc n)
unfolding world_at
first_row code start n =
    ap (λ (l : List ℕ). row_text (change_of start [] (next code start)) ++ l) (shift-rows code start 0 n)

-- the cause that forbids a step
here-some : (code : Code) (w : World) (steps : ℕ) (cause : Cause) → steps < most_steps → cause_here code w steps ≡ Some cause
    → stuck code w ≡ Some cause
unfolding cause_here
here-some code w steps cause low e = go (stuck code w) (nat_le most_steps steps) (let h : nat_le most_steps steps ≡ false = grind (arith, nat_tests, low) in h) e
  where
    go : (found : Option Cause) (v : Bool) → v ≡ false → (found otherwise error_if v Limit) ≡ Some cause → found ≡ Some cause
    go (Some c) v h e = e
    go None false h e = e
    go None true h e = cc

here-none : (code : Code) (w : World) (steps : ℕ) → cause_here code w steps ≡ None → stuck code w ≡ None
unfolding cause_here
here-none code w steps e = go (stuck code w) (nat_le most_steps steps) e
  where
    go : (found : Option Cause) (v : Bool) → (found otherwise error_if v Limit) ≡ None → found ≡ None
    go (Some c) v e = e
    go None v e = refl

pub here-last : (code : Code) (w : World) (steps : ℕ) → unwrap_or (cause_here code w steps) Limit ≡ unwrap_or (stuck code w) Limit
unfolding cause_here
here-last code w steps = go (stuck code w) (nat_le most_steps steps)
  where
    go : (found : Option Cause) (v : Bool) → unwrap_or (found otherwise error_if v Limit) Limit ≡ unwrap_or found Limit
    go (Some c) v = refl
    go None true = refl
    go None false = refl

-- a run without steps
ended-here : (code : Code) (w : World) (limit : ℕ) (cause : Cause)
    → (stuck code w ≡ Some cause) ⊎ ((stuck code w ≡ None) × (0 ≡ limit) × (cause ≡ Limit)) → IsLimited code w limit (only cause)
unfolding world_at
ended-here code w limit cause why = record {
  end = record { world = w; steps = 0; cause = cause };
  is_end = record { within = omega arith; reached = refl; first = λ k low. absurd (omega (arith, low)); cause = why };
  part_is = refl;
}

-- a step, and a run from the next world on
step-limited : (code : Code) (w : World) (limit : ℕ) (part : Part) → stuck code w ≡ None → IsLimited code (next code w) limit part
    → IsLimited code w (suc limit) (with_row (row_text (change_of w [] (next code w))) part)
unfolding world_at
step-limited code w limit part free is = record {
  end = record { world = is.end.world; steps = suc is.end.steps; cause = is.end.cause };
  is_end = record {
    within = omega (arith, is.is_end.within);
    reached = is.is_end.reached ∙ shift code w is.end.steps;
    first = first;
    cause = why is.is_end.cause;
  };
  part_is = ap (λ (p : Part). with_row (row_text (change_of w [] (next code w))) p) is.part_is
      ∙ ap (λ (l : List ℕ). let p : Part = record { rows = l; cause = is.end.cause } in p) (first_row code w is.end.steps);
}
  where
    first : (k : ℕ) → k < suc is.end.steps → stuck code (world_at code w k) ≡ None
    first zero low = free
    first (suc k) low = ap (stuck code) (sym (shift code w k)) ∙ is.is_end.first k (omega (arith, low))

    why : (stuck code is.end.world ≡ Some is.end.cause) ⊎ ((stuck code is.end.world ≡ None) × (is.end.steps ≡ limit) × (is.end.cause ≡ Limit))
        → (stuck code is.end.world ≡ Some is.end.cause)
        ⊎ ((stuck code is.end.world ≡ None) × (suc is.end.steps ≡ suc limit) × (is.end.cause ≡ Limit))
    why (inl e) = inl e
    why (inr e) = inr (e.0, ap suc e.1, e.2)

-- what a film shows of a machine's run is a run with a limit
pub limited : (code : Code) (w : World) (steps n : ℕ) → steps + n ≤ most_steps → IsLimited code w n (rest_of code w steps n)
limited code w steps zero low =
    subst (λ (c : Cause). IsLimited code w 0 (only c)) (sym (here-last code w steps)) (go (stuck code w) refl)
  where
    go : (found : Option Cause) → stuck code w ≡ found → IsLimited code w 0 (only (unwrap_or found Limit))
    go (Some cause) e = ended-here code w 0 cause (inl e)
    go None e = ended-here code w 0 Limit (inr (e, refl, refl))
limited code w steps (suc n) low = go (cause_here code w steps) refl (limited code (next code w) (suc steps) n (omega (arith, low)))
  where
    go : (found : Option Cause) → cause_here code w steps ≡ found
        → IsLimited code (next code w) n (rest_of code (next code w) (suc steps) n)
        → IsLimited code w (suc n) (elim found as (λ _. Part) [
          | Some cause ↦ only cause
          | None ↦ with_row (row_text (change_of w [] (next code w))) (rest_of code (next code w) (suc steps) n)
        ])
    go (Some cause) e rest = ended-here code w (suc n) cause (inl (here-some code w steps cause (omega (arith, low)) e))
    go None e rest = step-limited code w n (rest_of code (next code w) (suc steps) n) (here-none code w steps e) rest

-- Runs, one after another.
use Rattle.std.specs.Prelude.{◌≡◌, ℕ, ◌+◌, ◌<◌, Bool, true, List, [], ◌∷◌, ◌++◌, length, slice_index_or, refl, Result, Ok, Err, is_ok, OnOk}
use Rattle.std.proofs.Common.{sym, ap, ◌∙◌}
use Rattle.std.proofs.lemmas.Bool.{false≢true}
use Rattle.std.proofs.lemmas.List.{map-append}
use Rattle.std.proofs.lemmas.List.Elements.{All-nil, All-push}
use Rattle.std.proofs.lemmas.List.Sums.{sum_by_push}
use Rattle.a2_asm.specs.Assembled.{Assembled}
use Rattle.a2_machine.specs.declared.causes.Cause.{Cause}
use Rattle.a2_timed_keys.specs.declared.run.TypedFault.{TypedFault}
use Rattle.a2_timed_keys.specs.declared.run.TypedFault.TheVariants.{Full, Memory}
use Rattle.a2_timed_keys.specs.declared.strokes.Typed.{Typed}
use Rattle.a2_timed_keys.specs.Typed.{IsTypedFault}
use Rattle.a2_profile.specs.Runs.{Ran, AreRuns, added_up, IsSum, IsFaultOfAll}

abbrev ran : {T : Type 0} → List ℕ → T → Cause → Ran T
ran keys counted cause = record { keys = keys; counted = counted; cause = cause }

one-more : {T : Type 0} (IsRun : List ℕ → T → Cause → Type 0) (runs : List (Ran T)) (keys : List (List ℕ)) (causes : List Cause)
    (k : List ℕ) (x : T) (cause : Cause) → AreRuns IsRun runs keys causes → IsRun k x cause
    → AreRuns IsRun (runs ++ ran k x cause ∷ []) (keys ++ k ∷ []) (causes ++ cause ∷ [])
one-more {T} IsRun runs keys causes k x cause h is = record {
  each = All-push (λ (run : Ran T). IsRun run.keys run.counted run.cause) runs (ran k x cause) h.each is;
  keys_are = map-append (λ (run : Ran T). run.keys) runs (ran k x cause ∷ []) ∙ ap (λ (l : List (List ℕ)). l ++ k ∷ []) h.keys_are;
  causes_are = map-append (λ (run : Ran T). run.cause) runs (ran k x cause ∷ []) ∙ ap (λ (l : List Cause). l ++ cause ∷ []) h.causes_are;
}

added-push : {T : Type 0} (join : T → T → T) (none : T) (i : ℕ) (sum : T) (runs : List (Ran (List T))) (run : Ran (List T))
    → added_up join none i sum (runs ++ run ∷ []) ≡ join (added_up join none i sum runs) (slice_index_or run.counted i none)
added-push join none i sum [] run = refl
added-push join none i sum (first ∷ runs) run = added-push join none i (join sum (slice_index_or first.counted i none)) runs run

module _ {T : Type 0} (join : T → T → T) (none : T) (steps_in cycles_in : List T → ℕ) (IsRun : List ℕ → List T → Cause → Type 0) where
  -- before the first run nothing is counted
  pub no-runs : (counted : List T) → ((i : ℕ) → slice_index_or counted i none ≡ none) → steps_in counted ≡ 0 → cycles_in counted ≡ 0
      → IsSum join none steps_in cycles_in IsRun [] counted []
  no-runs counted items steps cycles = record {
    runs = [];
    are_runs = record { each = All-nil (λ (run : Ran (List T)). IsRun run.keys run.counted run.cause); keys_are = refl; causes_are = refl };
    items_are = items;
    steps_are = steps;
    cycles_are = cycles;
  }

  -- one more run
  pub run-more : (keys : List (List ℕ)) (causes : List Cause) (counted run new : List T) (k : List ℕ) (cause : Cause)
      → IsSum join none steps_in cycles_in IsRun keys counted causes → IsRun k run cause
      → ((i : ℕ) → slice_index_or new i none ≡ join (slice_index_or counted i none) (slice_index_or run i none))
      → steps_in new ≡ steps_in counted + steps_in run → cycles_in new ≡ cycles_in counted + cycles_in run
      → IsSum join none steps_in cycles_in IsRun (keys ++ k ∷ []) new (causes ++ cause ∷ [])
  run-more keys causes counted run new k cause h is each steps cycles =
      let one : Ran (List T) = ran k run cause in record {
        runs = h.runs ++ one ∷ [];
        are_runs = one-more IsRun h.runs keys causes k run cause h.are_runs is;
        items_are = λ i. each i ∙ ap (λ (t : T). join t (slice_index_or run i none)) (h.items_are i) ∙ sym (added-push join none i none h.runs one);
        steps_are = steps ∙ ap (λ (n : ℕ). n + steps_in run) h.steps_are ∙ sym (sum_by_push (λ (r : Ran (List T)). steps_in r.counted) h.runs one);
        cycles_are = cycles ∙ ap (λ (n : ℕ). n + cycles_in run) h.cycles_are ∙ sym (sum_by_push (λ (r : Ran (List T)). cycles_in r.counted) h.runs one);
      }

-- a fault of one run is one of all of them
pub fault-of : (program : Assembled) (keys : List (List ℕ)) (log : List Typed) (limit : ℕ) (free : Bool) (fault : TypedFault) (run : ℕ)
    → run < length keys → IsTypedFault program (slice_index_or keys run []) log limit free fault → IsFaultOfAll program keys log limit free fault
fault-of program keys log limit free (Full steps) run low is = (run, low, is)
fault-of program keys log limit free Memory run low is = tt

-- what holds if a join succeeded
pub when_ok : {T E : Type 0} (r : Result T E) → is_ok r ≡ true → (P : Type 0) → OnOk r P → P
when_ok (Ok x) is P h = h
when_ok (Err e) is P h = absurd (false≢true is)

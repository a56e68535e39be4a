-- A list of calls is extended by one call.
use Rattle.std.proofs.Common.{◌≡◌, ℕ, ap, ◌∙◌, List, [], ◌∷◌, ◌++◌, refl, subst}
use Rattle.std.specs.Prelude.{Result, Ok, Err}
use Rattle.a2_debug_script.specs.declared.fault.DebugFault.{DebugFault}
use Rattle.a2_debug_script.specs.declared.calls.Answer.TheVariants.{Refused}
use Rattle.a2_debug_script.specs.declared.calls.Call.TheVariants.{SetBreak, ClearBreak}
use Rattle.a2_debug_script.specs.Marks.{Marks, marked, unmarked, at_place}
use Rattle.a2_debug_script.specs.Stored.{Stored, session_of}
use Rattle.a2_debug_script.specs.declared.calls.Call.{Call}
use Rattle.a2_debug_script.specs.declared.calls.Answer.{Answer}
use Rattle.a2_debug_script.specs.Calls.{CallDoes, Run, Sets, done_or}

pub run_push : (old mid new : Stored) (calls : List Call) (answers : List Answer) (call : Call) (answer : Answer)
    → Run old calls answers mid → CallDoes mid call answer new → Run old (calls ++ call ∷ []) (answers ++ answer ∷ []) new
run_push old mid new [] [] call answer run does = (new, subst (λ (s : Stored). CallDoes s call answer new) run does, refl)
run_push old mid new (c ∷ cs) (a ∷ as') call answer run does = (run.0, run.1, run_push run.0 mid new cs as' call answer run.2 does)
run_push old mid new calls answers call answer run does = absurd run

-- a call that sets or clears a breakpoint
pub sets_told : (old new : Stored) (done : Result (Unit {0}) DebugFault) (found : Result (List ℕ) DebugFault) (answer : Answer)
    → answer ≡ done_or done → Marks old.breaks new.breaks done found → new ≡ record old { breaks = new.breaks } → Sets old found answer new
unfolding session_of
sets_told old new (Ok u) (Ok breaks) answer told is left =
    let whole : new ≡ record old { breaks = breaks } = left ∙ ap (λ (bs : List ℕ). record old { breaks = bs }) is in
    (told, ap (λ (s : Stored). session_of s) whole, whole)
sets_told old new (Err fault) (Err why) answer told (same, kept) left =
    (told ∙ ap (λ f. Refused f) same, left ∙ ap (λ (bs : List ℕ). record old { breaks = bs }) kept)
sets_told old new done found answer told is left = absurd is

-- a rejected call changes nothing
sets_refused : (old new : Stored) (found : Result (List ℕ) DebugFault) (why : DebugFault) → Sets old found (Refused why) new → new ≡ old
sets_refused old new (Ok breaks) why h = cc
sets_refused old new (Err fault) why h = h.1

pub refused_same : (old new : Stored) (call : Call) (why : DebugFault) → CallDoes old call (Refused why) new → new ≡ old
refused_same old new (SetBreak word) why h = sets_refused old new (at_place marked old.program.names word.now old.breaks) why h
refused_same old new (ClearBreak word) why h = sets_refused old new (at_place unmarked old.program.names word.now old.breaks) why h
refused_same old new _ why h = h.2

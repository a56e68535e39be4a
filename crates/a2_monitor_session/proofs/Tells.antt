-- The report of a run, and the answer to a line that calls no program.
use Rattle.std.specs.Prelude.{◌↔◌, if◌then◌else◌, not, Option, Some, None, Result, Ok, Err, OnOk, is_ok}
use Rattle.std.proofs.Common.{◌≡◌, inr, ℕ, ◌-◌, Bool, true, List, ◌++◌, refl, sym, ap, ◌∙◌, subst}
use Rattle.a2_machine.specs.declared.causes.Cause.{Cause}
use Rattle.a2_monitor.specs.Commands.{address_called, command_of}
use Rattle.a2_monitor.specs.Replies.{IsReply}
use Rattle.a2_monitor.specs.SessionStates.{IsFreeRun, state_of_session}
use Rattle.a2_monitor_session.specs.Calls.{Attended, Begin, IsRunReported, IsPressReported, ending, waits_by}
use Rattle.a2_monitor_session.specs.Monitors.{IsHelp, IsLineAnswer, IsAnswer}
use Rattle.a2_monitor_session.specs.Presses.{pressed}
use Rattle.a2_monitor_session.specs.Screens.{IsSameScreen, screen_of, screen_where}

-- the report after a run
abbrev pub reported_lines : Bool → Bool → List ℕ → Cause → Attended → List ℕ
reported_lines is_same waits notice cause new =
    let session_state = state_of_session new.session in screen_where (not is_same) session_state.world ++ ending waits notice session_state cause

pub told : (begin : Begin) (limit : ℕ) (notice : List ℕ) (old new : Attended) (cause : Cause) (is_same waits : Bool) (made : ℕ) (left : Option ℕ)
    → IsFreeRun begin.world limit begin.session_state (state_of_session old.session) cause
    → (is_same ≡ true) ↔ IsSameScreen (screen_of begin.session_state.world) (screen_of (state_of_session old.session).world)
    → waits ≡ waits_by old.is_live cause
    → made ≡ (state_of_session old.session).steps - begin.session_state.steps
    → left ≡ (if waits then Some (limit - made) else None)
    → new ≡ record old { wait = left }
    → IsRunReported begin limit notice old.is_live (reported_lines is_same waits notice cause new) new
told begin limit notice old new cause is_same waits made left run same waits_is made_is left_is new_is =
    subst (λ (a : Attended). IsRunReported begin limit notice old.is_live (reported_lines is_same waits notice cause a) a) (sym new_is)
    (record {
      cause = cause;
      run = run;
      is_same = is_same;
      same = same;
      lines = ap (λ (w : Bool). reported_lines is_same w notice cause old) waits_is;
      wait = left_is
          ∙ ap (λ (w : Bool). if w then Some (limit - made) else None) waits_is
          ∙ ap (λ (m : ℕ). if waits_by old.is_live cause then Some (limit - m) else None) made_is;
      live = refl;
    })

-- the answer to a line, given whether a program is waiting
abbrev answered : List ℕ → Attended → List ℕ → Attended → Option ℕ → Type 0
answered line old text new wait = elim wait [ None ↦ IsLineAnswer line old text new | Some limit ↦ IsPressReported limit (pressed line) old text new ]

-- a line that neither asks for help nor calls a program, if no program is waiting
pub replied : (line : List ℕ) (old kept new : Attended) (text : List ℕ) → old ≡ kept → old.wait ≡ None → (IsHelp line → ⊥)
    → address_called (command_of line) ≡ None → IsReply line (state_of_session old.session) text (state_of_session new.session)
    → new.wait ≡ old.wait → new.is_live ≡ old.is_live → IsAnswer line kept text new
replied line old kept new text is none no_help no_call reply wait live =
    subst (λ (a : Attended). IsAnswer line a text new) is
    (subst (answered line old text new) (sym none) (inr (inr (no_help, no_call, reply, wait, live))))

-- a fact that holds if a call succeeded
pub on_ok : {T E : Type 0} → (r : Result T E) (P : Type 0) → is_ok r ≡ true → OnOk r P → P
on_ok (Ok _) P h p = p
on_ok (Err _) P h p = cc

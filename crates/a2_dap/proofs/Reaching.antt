-- How calls of the debugger follow each other.
use Rattle.std.proofs.Common.{◌≡◌, ℕ, zero, suc, List, Some, refl, sym, subst, inl, inr}
use Rattle.a2_debugger.specs.Inspections.{Inspection, IsDone, IsAnswered, moved_to}
use Rattle.a2_debugger.specs.declared.inspector_command.InspectorCommand.{InspectorCommand}
use Rattle.a2_dap.specs.Requests.{IsCalled, AreCalled, Reaches}

pub stays : (at : Inspection) → Reaches at at
unfolding AreCalled
stays at = record { calls = 0; made = refl }

-- one more call
pub one_more : (old between new : Inspection) → Reaches old between → IsCalled between new → Reaches old new
unfolding AreCalled
one_more old between new first call = record { calls = suc first.calls; made = (between, first.made, call) }

joined-calls : (n : ℕ) (old between new : Inspection) → Reaches old between → AreCalled n between new → Reaches old new
unfolding AreCalled
joined-calls zero old between new first same = subst (λ (i : Inspection). Reaches old i) (sym same) first
joined-calls (suc n) old between new first (there, made, call) =
    one_more old there new (joined-calls n old between there first made) call

pub joined : (old between new : Inspection) → Reaches old between → Reaches between new → Reaches old new
joined old between new first second = joined-calls second.calls old between new first second.made

-- a command
pub done : (order : InspectorCommand) (old new : Inspection) → IsDone order old new → Reaches old new
done order old new is = one_more old old new (stays old) (inl (order, is))

pub then_done : (order : InspectorCommand) (old between new : Inspection) → Reaches old between → IsDone order between new → Reaches old new
then_done order old between new first is = one_more old between new first (inl (order, is))

-- a line
pub answered : (line : List ℕ) (old new : Inspection) → IsAnswered line old new → Reaches old new
answered line old new is = one_more old old new (stays old) (inr (inl (line, is)))

-- the way back to the start
pub begun : (old new : Inspection) → new ≡ record old { track = moved_to (Some 0) old.track } → Reaches old new
begun old new is = one_more old old new (stays old) (inr (inr is))

pub same : (old new : Inspection) → new ≡ old → Reaches old new
same old new is = subst (λ (i : Inspection). Reaches old i) (sym is) (stays old)

-- How calls of the debugger follow each other that leave the run itself as it is.
use Rattle.std.proofs.Common.{◌≡◌, ◌⊎◌, ℕ, Bool, true, false, List, Option, Some, None, refl, sym, subst, ap, ◌∙◌, inl, inr}
use Rattle.std.proofs.lemmas.Bool.{false≢true}
use Rattle.a2_services.specs.World.{World}
use Rattle.a2_history.specs.Going.{Track, here}
use Rattle.a2_routines.specs.Routines.{is_call}
use Rattle.a2_routines.specs.declared.routines.Entry.{Entry}
use Rattle.a2_history.specs.Routines.{entered}
use Rattle.a2_debugger.specs.Stops.{is_stop}
use Rattle.a2_debugger.specs.Inspections.{Inspection, IsDone, Moves, GoesOn, GoesOver, GoesOut, innermost, moved_to}
use Rattle.a2_debugger.specs.declared.inspector_command.InspectorCommand.{InspectorCommand}
use Rattle.a2_debugger.specs.declared.inspector_command.InspectorCommand.TheVariants as orders
use Rattle.a2_dap.specs.Requests.{Reaches, Travels}
use Rattle.a2_dap.proofs.Reaching as reaching

-- whether a command leaves the run itself as it is
abbrev pub is_kept : InspectorCommand → Bool
is_kept (orders.TypeKeys keys) = false
is_kept (orders.Set setting) = false
is_kept order = true

moved-course : (found : Option ℕ) (old new : Track) → new ≡ moved_to found old → new.course ≡ old.course
moved-course None old new is = ap (λ (t : Track). t.course) is
moved-course (Some position) old new is = ap (λ (t : Track). t.course) is

over-course : (calls : Bool) (s : ℕ) (stop : World → Bool) (most : ℕ) (old new : Track) → GoesOver calls s stop most old new
    → new.course ≡ old.course
over-course true s stop most old new goes = goes.course
over-course false s stop most old new goes = goes.course

out-course : (entry : Option Entry) (stop : World → Bool) (most : ℕ) (old new : Track) → GoesOut entry stop most old new
    → new.course ≡ old.course
out-course None stop most old new same = ap (λ (t : Track). t.course) same
out-course (Some entry) stop most old new goes = goes.course

kept-course : (order : InspectorCommand) (stop : World → Bool) (most : ℕ) (old new : Track) → is_kept order ≡ true
    → Moves order stop most old new → new.course ≡ old.course
kept-course (orders.Step n) stop most old new kept moves = moves.course
kept-course orders.Next stop most old new kept moves = over-course (is_call (here old)) (here old).registers.s stop most old new moves
kept-course orders.Out stop most old new kept (inl goes) = out-course (innermost (entered old.course old.position)) stop most old new goes
kept-course orders.Out stop most old new kept (inr same) = ap (λ (t : Track). t.course) same
kept-course (orders.Back n) stop most old new kept moves = ap (λ (t : Track). t.course) moves
kept-course orders.GoBackOver stop most old new kept (inl (found, newest, turned)) = moved-course found old new turned
kept-course orders.GoBackOver stop most old new kept (inr same) = ap (λ (t : Track). t.course) same
kept-course orders.Go stop most old new kept moves = moves.course
kept-course (orders.Until address) stop most old new kept moves = moves.course
kept-course orders.GoBack stop most old new kept moves = moved-course moves.found old new moves.turned
kept-course (orders.Who watch) stop most old new kept moves = moved-course moves.found old new moves.turned
kept-course (orders.Watch watch) stop most old new kept moves = ap (λ (t : Track). t.course) moves
kept-course (orders.Unwatch watch) stop most old new kept moves = ap (λ (t : Track). t.course) moves
kept-course (orders.Break place) stop most old new kept moves = ap (λ (t : Track). t.course) moves
kept-course orders.Clear stop most old new kept moves = ap (λ (t : Track). t.course) moves
kept-course (orders.ClearAt address) stop most old new kept moves = ap (λ (t : Track). t.course) moves
kept-course (orders.Show show) stop most old new kept moves = ap (λ (t : Track). t.course) moves
kept-course (orders.TypeKeys keys) stop most old new kept moves = absurd (false≢true kept)
kept-course (orders.Set setting) stop most old new kept moves = absurd (false≢true kept)

done-course : (order : InspectorCommand) (old new : Inspection) → is_kept order ≡ true → IsDone order old new
    → new.track.course ≡ old.track.course
done-course order old new kept is =
    kept-course order (is_stop old.breaks old.watches (here old.track)) old.most old.track new.track kept is.moves

pub stays : (at : Inspection) → Travels at at
stays at = record { course = refl; reached = reaching.stays at }

pub joined : (old between new : Inspection) → Travels old between → Travels between new → Travels old new
joined old between new first second = record {
  course = second.course ∙ first.course;
  reached = reaching.joined old between new first.reached second.reached;
}

-- a command that leaves the run itself as it is
pub done : (order : InspectorCommand) (old new : Inspection) → IsDone order old new → is_kept order ≡ true → Travels old new
done order old new is kept = record { course = done-course order old new kept is; reached = reaching.done order old new is }

pub then_done : (order : InspectorCommand) (old between new : Inspection) → Travels old between → IsDone order between new
    → is_kept order ≡ true → Travels old new
then_done order old between new first is kept = joined old between new first (done order between new is kept)

-- the way back to the start
pub begun : (old new : Inspection) → new ≡ record old { track = moved_to (Some 0) old.track } → Travels old new
begun old new is = record { course = ap (λ (i : Inspection). i.track.course) is; reached = reaching.begun old new is }

pub same : (old new : Inspection) → new ≡ old → Travels old new
same old new is = subst (λ (i : Inspection). Travels old i) (sym is) (stays old)

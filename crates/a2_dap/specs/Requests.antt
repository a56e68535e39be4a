-- What requests do to a run. This project's profile.
use Rattle.std.specs.Prelude.{◌≡◌, ◌⊎◌, ℕ, zero, suc, List, Some}
use Rattle.a2_debugger.specs.Inspections.{Inspection, IsDone, IsAnswered, moved_to}
use Rattle.a2_debugger.specs.declared.inspector_command.InspectorCommand.{InspectorCommand}
use Rattle.a2_dap_messages.specs.declared.request.Command.{Command}
use Rattle.a2_dap_messages.specs.declared.request.Command.TheVariants as commands

-- one call of the debugger: a command, a line, or the way back to the start
abbrev pub IsCalled : Inspection → Inspection → Type 0
IsCalled old new =
    ((order : InspectorCommand) × IsDone order old new)
    ⊎ ((line : List ℕ) × IsAnswered line old new)
    ⊎ (new ≡ record old { track = moved_to (Some 0) old.track })

-- this many calls of the debugger, one after another
unfoldable pub AreCalled : ℕ → Inspection → Inspection → Type 0
AreCalled zero old new = new ≡ old
AreCalled (suc n) old new = (between : Inspection) × AreCalled n old between × IsCalled between new

-- calls of the debugger lead from one state to another
pub record Reaches (old new : Inspection) : Type 0 where
  pub calls : ℕ
  pub made : AreCalled calls old new

-- calls of the debugger lead from one state to another, and the run itself stays the same: nothing was typed, set or written
pub record Travels (old new : Inspection) : Type 0 where
  pub course : new.track.course ≡ old.track.course
  pub reached : Reaches old new

-- what a request does: only these four can change the run itself
abbrev pub Handles : Command → Inspection → Inspection → Type 0
Handles commands.SetVariable old new = Reaches old new
Handles commands.WriteMemory old new = Reaches old new
Handles commands.Goto old new = Reaches old new
Handles commands.Evaluate old new = Reaches old new
Handles command old new = Travels old new

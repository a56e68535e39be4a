-- The answers of the Monitor at a terminal, and its start. This project's profile.
use Rattle.std.specs.Prelude.{◌≡◌, ◌⊎◌, ℕ, List, [], map, codes, Option, Some, None, Ok, Err}
use Rattle.a2_text.specs.Bytes.{capital}
use Rattle.a2_hex.specs.declared.fault.HexFault.{HexFault}
use Rattle.a2_hex.specs.ObjectLines.{image_of}
use Rattle.a2_asm.specs.Assembled.{Assembled}
use Rattle.a2_machine.specs.Start.{start_world}
use Rattle.a2_services.specs.World.{World}
use Rattle.a2_monitor.specs.Commands.{address_called, command_of}
use Rattle.a2_monitor.specs.SessionStates.{SessionState, state_of_session}
use Rattle.a2_monitor.specs.Replies.{IsReply}
use Rattle.a2_run.specs.declared.fault.RunFault.{RunFault}
use Rattle.a2_run.specs.declared.fault.RunFault.TheVariants.{Memory}
use Rattle.a2_run.specs.Meaning.{IsProgramOf, start_of_run}
use Rattle.a2_run.specs.Started.{RefusesText}
use Rattle.a2_monitor_session.specs.Calls.{Attended, IsCallReported, IsPressReported}
use Rattle.a2_monitor_session.specs.Presses.{pressed}

-- a line asks for help
abbrev pub IsHelp : List ℕ → Type 0
IsHelp line = map capital line ≡ codes "HELP"

-- the answer to a line if no program is waiting, and its effect: help changes nothing, and a call is reported as its run
-- proceeds
abbrev pub IsLineAnswer : List ℕ → Attended → List ℕ → Attended → Type 0
IsLineAnswer line old text new =
    (IsHelp line × (new ≡ old))
    ⊎ ((IsHelp line → ⊥) × (at : ℕ) × (address_called (command_of line) ≡ Some at) × IsCallReported at old text new)
    ⊎ ((IsHelp line → ⊥) × (address_called (command_of line) ≡ None) × IsReply line (state_of_session old.session) text (state_of_session new.session)
    × (new.wait ≡ old.wait) × (new.is_live ≡ old.is_live))

-- while a program is waiting, a line is a key
abbrev pub IsAnswer : List ℕ → Attended → List ℕ → Attended → Type 0
IsAnswer line old text new =
    elim old.wait [ None ↦ IsLineAnswer line old text new | Some limit ↦ IsPressReported limit (pressed line) old text new ]

-- a session at its start with this world
abbrev pub begun_with : World → SessionState
begun_with world = record { world = world; steps = 0; next = 0 }

-- the session at the start with a text: object lines, or otherwise a source
abbrev pub IsBegun : List ℕ → SessionState → Type 0
IsBegun text session_state =
    ((image : ℕ → Option ℕ) × (image_of text ≡ Ok image) × (session_state ≡ begun_with (start_world image 0x0300 [])))
    ⊎ ((why : HexFault) × (image_of text ≡ Err why) × (program : Assembled) × IsProgramOf text program × (session_state ≡ begun_with (start_of_run program [])))

-- a text is not object lines and, as a source, has errors; or memory ran out
abbrev pub IsLoadError : List ℕ → RunFault → Type 0
IsLoadError text fault = (fault ≡ Memory) ⊎ ((why : HexFault) × (image_of text ≡ Err why) × RefusesText text fault)

-- What a script of Monitor lines means: its first error, or its lines, each repeated after `*`, with their replies.
-- This project's profile.
use Rattle.std.specs.Prelude.{◌≡◌, ℕ, List, codes, Some, None}
use Rattle.a2_text.specs.Lines.{lines}
use Rattle.a2_syntax.specs.declared.fault.Fault.{Fault}
use Rattle.a2_syntax.specs.declared.fault.Fault.TheVariants as refusal
use Rattle.a2_syntax.specs.Limits.{size_error}
use Rattle.a2_monitor.specs.SessionStates.{start_state}
use Rattle.a2_monitor.specs.Replies.{IsReply}
use Rattle.a2_run.specs.declared.fault.RunFault.{RunFault}
use Rattle.a2_run.specs.declared.fault.RunFault.TheVariants.{Script, Memory}
use Rattle.a2_scripts.specs.Replies.{AreReplied}

-- the errors of a script that comes without a source
abbrev pub OfScript : (Fault → Type 0) → RunFault → Type 0
OfScript refuses (Script fault) = refuses fault
OfScript refuses _ = ⊥

-- the script has this error, because of its size
abbrev pub IsScriptError : List ℕ → Fault → Type 0
IsScriptError script fault = size_error script ≡ Some fault

-- the script is within the limits, and this output answers its lines
abbrev pub IsMonText : List ℕ → List ℕ → Type 0
IsMonText script output = (size_error script ≡ None) × AreReplied IsReply (codes "*") (lines script) start_state output

-- an error of a script; running out of memory is a separate error
abbrev pub script_fault : Fault → RunFault
script_fault refusal.Memory = Memory
script_fault fault = Script fault

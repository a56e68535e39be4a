-- Laws about the meaning of scripts: statements only about the definitions of `Scripts.antt` and `DebugScripts.antt`,
-- by name. This project's own.
use Rattle.std.specs.Prelude.{◌≡◌, ℕ, List, None}
use Rattle.a2_syntax.specs.declared.fault.Fault.{Fault}
use Rattle.a2_syntax.specs.Limits.{size_error}
use Rattle.a2_asm.specs.Assembled.{Assembled}
use Rattle.a2_run.specs.declared.fault.RunFault.{RunFault}
use Rattle.a2_run.specs.Meaning.{IsProgramOf}
use Rattle.a2_scripts.specs.Scripts.{IsScriptError, IsMonText}
use Rattle.a2_scripts.specs.DebugScripts.{IsDebugText, IsDebugError}

-- a script has at most one error
abbrev pub OneScriptError : Type 0
OneScriptError = (script : List ℕ) (fault other : Fault) → IsScriptError script fault → IsScriptError script other → fault ≡ other

-- a script that has an error has no output
abbrev pub ScriptWithErrorHasNoOutput : Type 0
ScriptWithErrorHasNoOutput = (script output : List ℕ) (fault : Fault) → IsScriptError script fault → IsMonText script output → ⊥

-- a script without an error has an output
abbrev pub EachScriptHasOutput : Type 0
EachScriptHasOutput = (script : List ℕ) → size_error script ≡ None → (output : List ℕ) × IsMonText script output

-- a script has at most one output
abbrev pub OneScriptOutput : Type 0
OneScriptOutput = (script output other : List ℕ) → IsMonText script output → IsMonText script other → output ≡ other

-- a source with a script of debugger lines has at most one error
abbrev pub OneDebugError : Type 0
OneDebugError =
    (source script : List ℕ) (why other : RunFault) → IsDebugError source script why
    → IsDebugError source script other → why ≡ other

-- if it has an error, it has no output
abbrev pub DebuggingWithErrorHasNoOutput : Type 0
DebuggingWithErrorHasNoOutput =
    (source script output : List ℕ) (why : RunFault) → IsDebugError source script why → IsDebugText source script output → ⊥

-- a source that has a program, with a script within the limits, has an output
abbrev pub EachDebuggingHasOutput : Type 0
EachDebuggingHasOutput =
    (source script : List ℕ) (program : Assembled) → IsProgramOf source program → size_error script ≡ None
    → (output : List ℕ) × IsDebugText source script output

-- every source with a script has an error or an output
abbrev pub ErrorOrDebugged : Type 0
ErrorOrDebugged =
    (source script : List ℕ) → ((why : RunFault) → IsDebugError source script why → ⊥)
    → ((output : List ℕ) → IsDebugText source script output → ⊥) → ⊥

-- a source with a script has at most one output
abbrev pub OneDebugOutput : Type 0
OneDebugOutput = (source script output other : List ℕ) → IsDebugText source script output → IsDebugText source script other → output ≡ other

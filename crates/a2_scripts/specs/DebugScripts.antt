-- What a source with a script of debugger lines means: its first error, or the lines with their answers.
use Rattle.std.specs.Prelude.{◌≡◌, ◌⊎◌, ℕ, Bool, true, false, List, ◌++◌, codes, None}
use Rattle.a2_text.specs.Lines.{lines}
use Rattle.a2_stream.specs.Stream.{Giver, count_after}
use Rattle.a2_syntax.specs.Limits.{size_error}
use Rattle.a2_asm.specs.Assembled.{Assembled}
use Rattle.a2_debug_script.specs.declared.fault.DebugFault.{DebugFault}
use Rattle.a2_debug_script.specs.Stored.{Stored, debugger_at_start}
use Rattle.a2_debug_script.specs.Answers.{IsDebugAnswer, IsLineRejected}
use Rattle.a2_debug_script.specs.Texts.{debug_fault_text}
use Rattle.a2_run.specs.declared.fault.RunFault.{RunFault}
use Rattle.a2_run.specs.declared.fault.RunFault.TheVariants.{Source, Script}
use Rattle.a2_run.specs.Meaning.{IsProgramOf, IsRefused}
use Rattle.a2_scripts.specs.Scripts.{IsScriptError}
use Rattle.a2_scripts.specs.Replies.{AreReplied}

-- a line is rejected with a line of text
pub record IsRejectedWith (line : List ℕ) (old : Stored) (text : List ℕ) (new : Stored) : Type 0 where
  pub fault : DebugFault
  pub refused : IsLineRejected line old fault
  pub told : text ≡ debug_fault_text fault ++ codes "\n"
  pub kept : new ≡ old

-- the text of a line, and the state after it
abbrev pub Meets : List ℕ → Stored → List ℕ → Stored → Type 0
Meets line old text new = IsDebugAnswer line old text new ⊎ IsRejectedWith line old text new

-- the source has a program and the script is within the limits: the lines of the script, answered by a debugger of that
-- program
pub record IsDebugText (source script output : List ℕ) : Type 0 where
  pub program : Assembled
  pub is_program : IsProgramOf source program
  pub fits : size_error script ≡ None
  pub answers : AreReplied Meets (codes ">") (lines script) (debugger_at_start program 0) output

-- the source has this error; or it has a program, and the script is over the limits
abbrev pub IsDebugError : List ℕ → List ℕ → RunFault → Type 0
IsDebugError source script (Source fault) = IsRefused source fault
IsDebugError source script (Script fault) = ((program : Assembled) × IsProgramOf source program) × IsScriptError script fault
IsDebugError source script _ = ⊥

-- if a read error is reported, a read of one of two readers failed: of the first, with the second unchanged, or of the
-- second; otherwise none failed
abbrev pub ReadsFail : Bool → Giver → Giver → Giver → Giver → Type 0
ReadsFail true first first' second second' =
    ((first'.failures ≡ count_after true first.failures) × (second' ≡ second))
    ⊎ ((first'.failures ≡ first.failures) × (second'.failures ≡ count_after true second.failures))
ReadsFail false first first' second second' = (first'.failures ≡ first.failures) × (second'.failures ≡ second.failures)

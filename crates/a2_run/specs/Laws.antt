-- Laws about what source texts mean: named statements about the definitions of `Meaning.antt` only. This project's own.
use Rattle.std.specs.Prelude.{◌≡◌, ◌≢◌, ℕ, true, false, List}
use Rattle.a2_syntax.specs.declared.fault.Fault.{Fault}
use Rattle.a2_asm.specs.Assembled.{Assembled}
use Rattle.a2_machine.specs.declared.causes.Cause.{Cause}
use Rattle.a2_machine.specs.declared.causes.Cause.TheVariants.{CodeWrite, OffStatement}
use Rattle.a2_run.specs.declared.Options.{Options}
use Rattle.a2_run.specs.Meaning.{IsProgramOf, IsRefused, IsRun, AreObjectLines}

-- if a text's guarded run ends neither by CODE WRITE nor by OFF STATEMENT, its free run has the same cause and output
abbrev pub FreeRunsAreGuardedRuns : Type 0
FreeRunsAreGuardedRuns =
    (text keys : List ℕ) (limit : ℕ) (options : Options) (cause : Cause) (output : List ℕ)
    → IsRun text keys limit (record options { free = false }) cause output → cause ≢ CodeWrite → cause ≢ OffStatement
    → IsRun text keys limit (record options { free = true }) cause output

-- a text has at most one first error
abbrev pub OneRefusal : Type 0
OneRefusal = (text : List ℕ) (fault other : Fault) → IsRefused text fault → IsRefused text other → fault ≡ other

-- a text with an error has no program
abbrev pub RefusedHasNoProgram : Type 0
RefusedHasNoProgram = (text : List ℕ) (fault : Fault) (program : Assembled) → IsRefused text fault → IsProgramOf text program → ⊥

-- a text with an error has no run
abbrev pub RefusedHasNoRun : Type 0
RefusedHasNoRun =
    (text keys : List ℕ) (limit : ℕ) (options : Options) (fault : Fault) (cause : Cause) (output : List ℕ)
    → IsRefused text fault → IsRun text keys limit options cause output → ⊥

-- a text with an error has no object lines
abbrev pub RefusedHasNoObjectLines : Type 0
RefusedHasNoObjectLines = (text output : List ℕ) (fault : Fault) → IsRefused text fault → AreObjectLines text output → ⊥

-- every text has an error or a program
abbrev pub RefusedOrProgram : Type 0
RefusedOrProgram =
    (text : List ℕ) → ((fault : Fault) → IsRefused text fault → ⊥) → ((program : Assembled) → IsProgramOf text program → ⊥) → ⊥

-- a text's run has one cause
abbrev pub OneCause : Type 0
OneCause =
    (text keys : List ℕ) (limit : ℕ) (options : Options) (cause other : Cause) (output another : List ℕ)
    → IsRun text keys limit options cause output → IsRun text keys limit options other another → cause ≡ other

-- a text's run has one output
abbrev pub OneOutput : Type 0
OneOutput =
    (text keys : List ℕ) (limit : ℕ) (options : Options) (cause other : Cause) (output another : List ℕ)
    → IsRun text keys limit options cause output → IsRun text keys limit options other another → output ≡ another

-- a text's object lines are one text
abbrev pub OneObjectText : Type 0
OneObjectText = (text output another : List ℕ) → AreObjectLines text output → AreObjectLines text another → output ≡ another

-- a text that has a program has a run, with any keys, limit and options
abbrev pub EachProgramRuns : Type 0
EachProgramRuns =
    (text keys : List ℕ) (limit : ℕ) (options : Options) (program : Assembled) → IsProgramOf text program
    → (cause : Cause) × (output : List ℕ) × IsRun text keys limit options cause output

-- a text that has a program has object lines
abbrev pub EachProgramHasObjectLines : Type 0
EachProgramHasObjectLines = (text : List ℕ) (program : Assembled) → IsProgramOf text program → (output : List ℕ) × AreObjectLines text output

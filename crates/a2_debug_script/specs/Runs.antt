-- Steps that are executed in one run.
use Rattle.std.specs.Prelude.{◌≡◌, ◌≢◌, ◌⊎◌, ℕ, ◌+◌, ◌-◌, ◌<◌, ◌≤◌, List, []}
use Rattle.a2_machine.specs.declared.Stop.{Stop}
use Rattle.a2_machine.specs.declared.Stop.TheVariants as stop
use Rattle.a2_debug_script.specs.declared.Halt.{Halt}
use Rattle.a2_debug_script.specs.declared.Halt.TheVariants.{Stopped, Break}
use Rattle.a2_debug_script.specs.declared.debugger.Breaks.{Breaks}
use Rattle.a2_debug_script.specs.declared.debugger.Breaks.TheVariants.{Ignored, Heeded}
use Rattle.a2_debug_script.specs.Session.{Halted, advanced}
use Rattle.a2_debug_script.specs.Stored.{Stored, session_of, Moves}

-- the breakpoints that end steps
abbrev pub heeded : Breaks → List ℕ → List ℕ
heeded Ignored marks = []
heeded Heeded marks = marks

-- why steps ended, in the form that a debugger reports
abbrev pub halt_by : Stop → Halt
halt_by (stop.Cause cause) = Stopped cause
halt_by stop.Breakpoint = Break

-- the state of a debugger and its answer
abbrev pub halted : Stored → Halt → Halted
halted new halt = record { session = session_of new; halt = halt }

-- steps were executed up to a count, or fewer
pub record RunsToCount (marks : List ℕ) (to : ℕ) (old new : Stored) (halt : Halt) : Type 0 where
  pub moves : Moves old (to - old.count) new
  -- running these steps and `more` others also ends here, if they ended at a breakpoint or before the count, or if
  -- `more` is 0
  pub ended : (more : ℕ) → (halt ≡ Break) ⊎ (new.count < to) ⊎ (more ≡ 0)
      → advanced old.program marks (to - old.count + more) (session_of old) ≡ halted new halt
  -- otherwise, running these steps and more is the same as running the additional steps after them
  pub on : halt ≢ Break → to ≤ new.count → (more : ℕ)
      → advanced old.program marks (to - old.count + more) (session_of old) ≡ advanced old.program marks more (session_of new)

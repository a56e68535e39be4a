-- What is reported to standard error. This project's profile.
use Rattle.std.specs.Prelude.{◌≡◌, ◌⊎◌, ℕ, codes, Result, Ok, Err}
use Rattle.a2_stream.specs.Stream.{Taker}
use Rattle.a2_run.specs.declared.fault.RunFault.{RunFault}
use Rattle.a2_run.specs.Status.{fault_status}
use Rattle.a2_run.specs.Texts.{run_fault_text}
use Rattle.a2_host.specs.ErrorLines.{ReportsLine}

-- an error is reported by a line with its text; without an error nothing is reported
abbrev pub ReportsFault : {T : Type 0} → Result T RunFault → Taker → Taker → Type 0
ReportsFault (Ok _) told told' = told' ≡ told
ReportsFault (Err fault) told told' = ReportsLine told told' (run_fault_text fault)

-- What an exit status says about the report: with 0 and 3 nothing was reported; with 1 an error of the source; with 2 that
-- arguments or keys are bad; with 4 that a read or a write failed; with 5 that there was not enough memory.
pub record IsReportedBy (status : ℕ) (told told' : Taker) : Type 0 where
  pub silent : status ≡ 0 ⊎ status ≡ 3 → told' ≡ told
  pub refused : status ≡ 1 → (fault : RunFault) × (fault_status fault ≡ 1) × ReportsLine told told' (run_fault_text fault)
  pub words : status ≡ 2 → ReportsLine told told' (codes "BAD WORDS") ⊎ ReportsLine told told' (codes "BAD KEYS")
  pub failed : status ≡ 4 → ReportsLine told told' (codes "READ FAULT") ⊎ ReportsLine told told' (codes "WRITE FAULT")
  pub memory : status ≡ 5 → ReportsLine told told' (codes "NO MEMORY")

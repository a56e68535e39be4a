-- The free run of a text is its guarded one, if the guard stops nothing.
use Rattle.std.specs.Prelude.{ℕ, List, Some}
use Rattle.std.proofs.Common.{subst, ◌∙◌}
use Rattle.a2_asm.specs.Programs.{instr_at}
use Rattle.a2_asm.specs.Assembled.{Assembled}
use Rattle.a2_machine.specs.Meaning.{End, IsEnd, statements}
use Rattle.a2_machine.specs.ByteRun.{bytes}
use Rattle.a2_machine.specs.ProgramGuard.{guard_of_program}
use Rattle.a2_machine.proofs.RunFrom.{run_from}
use Rattle.a2_machine.proofs.Runs.{run-is_end, end-unique}
use Rattle.a2_machine.proofs.GuardedRuns.{guarded_run}
use Rattle.a2_machine.proofs.Laid.{laid_by, start-holds, same-code}
use Rattle.a2_machine.proofs.FreeRun.{free_run_is_guarded}
use Rattle.a2_run.specs.Meaning.{IsProgramOf, start_of_run}
use Rattle.a2_run.specs.Laws.{FreeRunsAreGuardedRuns}
use Rattle.a2_run.proofs.Runs.{sound-of}

-- the end of the statements' run is that of the guarded bytes' run
pub guarded-end : (text keys : List ℕ) (limit : ℕ) (program : Assembled) (end : End) → IsProgramOf text program
    → IsEnd (statements (instr_at program.statements) (guard_of_program program).code) (start_of_run program keys) limit end
    → IsEnd (bytes (Some (guard_of_program program))) (start_of_run program keys) limit end
guarded-end text keys limit program end is ends =
    let sound = sound-of text program is in
    let guarded = bytes (Some (guard_of_program program)) in
    let start = start_of_run program keys in
    let run = run_from guarded start 0 limit in
    let reached : IsEnd guarded start limit run = run-is_end guarded start limit in
    let meant = guarded_run (instr_at program.statements) (guard_of_program program) (laid_by program) start limit run
    (same-code program sound) (start-holds program keys sound) reached in
    let P : End → Type 0 = λ e. IsEnd guarded start limit e in
    subst P (end-unique _ start limit run end meant ends) reached

pub free-same : FreeRunsAreGuardedRuns
free-same text keys limit options cause output run no_write no_off = record {
  program = run.program;
  is_program = run.is_program;
  end = run.end;
  is_end = free_run_is_guarded (guard_of_program run.program) (start_of_run run.program keys) limit run.end
      (guarded-end text keys limit run.program run.end run.is_program run.is_end)
      (λ e. no_write (run.cause_is ∙ e)) (λ e. no_off (run.cause_is ∙ e));
  cause_is = run.cause_is;
  output_is = run.output_is;
}

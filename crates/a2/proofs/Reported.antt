-- What is reported belongs to the exit status.
use Rattle.std.specs.Prelude.{Bool, true, false, if◌then◌else◌, codes}
use Rattle.std.proofs.Common.{◌≡◌, ◌⊎◌, ℕ, Result, Ok, Err, refl, sym, subst, arith, inl, inr}
use Rattle.a2_stream.specs.Stream.{Giver, Taker}
use Rattle.a2_syntax.specs.declared.fault.Fault.{Fault}
use Rattle.a2_syntax.specs.declared.fault.Fault.TheVariants as refusal
use Rattle.a2_syntax.specs.Texts.{fault_text}
use Rattle.a2_machine.specs.declared.causes.Cause.{Cause}
use Rattle.a2_machine.specs.Causes.{is_normal_end}
use Rattle.a2_run.specs.declared.fault.RunFault.{RunFault}
use Rattle.a2_run.specs.declared.fault.RunFault.TheVariants.{Source, Script, Read, Write, Memory}
use Rattle.a2_run.specs.Status.{cause_status, fault_status, refusal_status, status_of}
use Rattle.a2_run.specs.Texts.{run_fault_text}
use Rattle.a2_host.specs.ErrorLines.{ReportsLine}
use Rattle.a2_host.specs.Shelves.{ShelfState}
use Rattle.a2.specs.declared.words.Order.{Order}
use Rattle.a2.specs.declared.words.Order.TheVariants.{Asm, Mon, Debug, Run}
use Rattle.a2.specs.Program.{Does}
use Rattle.a2.specs.Telling.{IsReportedBy, ReportsFault}
use Rattle.a2.specs.Words.{done_status}

-- the report for each status

by_0 : (told told' : Taker) → told' ≡ told → IsReportedBy 0 told told'
by_0 told told' same = record {
  silent = λ _. same;
  refused = λ e. absurd (omega (arith, e));
  words = λ e. absurd (omega (arith, e));
  failed = λ e. absurd (omega (arith, e));
  memory = λ e. absurd (omega (arith, e));
}

by_3 : (told told' : Taker) → told' ≡ told → IsReportedBy 3 told told'
by_3 told told' same = record {
  silent = λ _. same;
  refused = λ e. absurd (omega (arith, e));
  words = λ e. absurd (omega (arith, e));
  failed = λ e. absurd (omega (arith, e));
  memory = λ e. absurd (omega (arith, e));
}

by_1 : (told told' : Taker) (fault : RunFault) → fault_status fault ≡ 1 → ReportsLine told told' (run_fault_text fault) → IsReportedBy 1 told told'
by_1 told told' fault is line = record {
  silent = λ e. elim e [ inl zero_is ↦ absurd (omega (arith, zero_is)) | inr three_is ↦ absurd (omega (arith, three_is)) ];
  refused = λ _. (fault, is, line);
  words = λ e. absurd (omega (arith, e));
  failed = λ e. absurd (omega (arith, e));
  memory = λ e. absurd (omega (arith, e));
}

by_4 : (told told' : Taker) → ReportsLine told told' (codes "READ FAULT") ⊎ ReportsLine told told' (codes "WRITE FAULT") → IsReportedBy 4 told told'
by_4 told told' line = record {
  silent = λ e. elim e [ inl zero_is ↦ absurd (omega (arith, zero_is)) | inr three_is ↦ absurd (omega (arith, three_is)) ];
  refused = λ e. absurd (omega (arith, e));
  words = λ e. absurd (omega (arith, e));
  failed = λ _. line;
  memory = λ e. absurd (omega (arith, e));
}

by_5 : (told told' : Taker) → ReportsLine told told' (codes "NO MEMORY") → IsReportedBy 5 told told'
by_5 told told' line = record {
  silent = λ e. elim e [ inl zero_is ↦ absurd (omega (arith, zero_is)) | inr three_is ↦ absurd (omega (arith, three_is)) ];
  refused = λ e. absurd (omega (arith, e));
  words = λ e. absurd (omega (arith, e));
  failed = λ e. absurd (omega (arith, e));
  memory = λ _. line;
}

-- the report for the status of a source error, of an error, of a cause, and of an answer

told_refusal : (told told' : Taker) (fault : Fault) → ReportsLine told told' (fault_text fault) → IsReportedBy (refusal_status fault) told told'
told_refusal told told' (refusal.TooLarge n) line = by_1 told told' (Source (refusal.TooLarge n)) refl line
told_refusal told told' (refusal.Syntax n) line = by_1 told told' (Source (refusal.Syntax n)) refl line
told_refusal told told' (refusal.TooManyNames n) line = by_1 told told' (Source (refusal.TooManyNames n)) refl line
told_refusal told told' (refusal.Duplicate n) line = by_1 told told' (Source (refusal.Duplicate n)) refl line
told_refusal told told' (refusal.Unknown n) line = by_1 told told' (Source (refusal.Unknown n)) refl line
told_refusal told told' (refusal.Forward n) line = by_1 told told' (Source (refusal.Forward n)) refl line
told_refusal told told' (refusal.NoMode n) line = by_1 told told' (Source (refusal.NoMode n)) refl line
told_refusal told told' (refusal.Range n) line = by_1 told told' (Source (refusal.Range n)) refl line
told_refusal told told' (refusal.Branch n) line = by_1 told told' (Source (refusal.Branch n)) refl line
told_refusal told told' (refusal.Outside n) line = by_1 told told' (Source (refusal.Outside n)) refl line
told_refusal told told' (refusal.Overlap n) line = by_1 told told' (Source (refusal.Overlap n)) refl line
told_refusal told told' refusal.NoCode line = by_1 told told' (Source refusal.NoCode) refl line
told_refusal told told' refusal.Memory line = by_5 told told' line

told_fault : (told told' : Taker) (fault : RunFault) → ReportsLine told told' (run_fault_text fault) → IsReportedBy (fault_status fault) told told'
told_fault told told' (Source fault) line = told_refusal told told' fault line
told_fault told told' (Script fault) line = told_refusal told told' fault line
told_fault told told' Read line = by_4 told told' (inl line)
told_fault told told' Write line = by_4 told told' (inr line)
told_fault told told' Memory line = by_5 told told' line

told_cause : (told told' : Taker) (cause : Cause) → told' ≡ told → IsReportedBy (cause_status cause) told told'
told_cause told told' cause same = go (is_normal_end cause)
  where
    go : (is_own : Bool) → IsReportedBy (if is_own then 0 else 3) told told'
    go true = by_0 told told' same
    go false = by_3 told told' same

told_done : (told told' : Taker) (answer : Result (Unit {0}) RunFault) → ReportsFault answer told told' → IsReportedBy (done_status answer) told told'
told_done told told' (Ok _) same = by_0 told told' same
told_done told told' (Err fault) line = told_fault told told' fault line

told_run : (told told' : Taker) (answer : Result Cause RunFault) → ReportsFault answer told told' → IsReportedBy (status_of answer) told told'
told_run told told' (Ok cause) same = told_cause told told' cause same
told_run told told' (Err fault) line = told_fault told told' fault line

-- the report for the status of an order
pub told_of_order : {R : Type 0} (giver : R → Giver) (order : Order) (shelf shelf' : ShelfState) (input input' : Giver)
    (old new told told' : Taker) (status : ℕ) → Does giver order shelf shelf' input input' old new told told' status → IsReportedBy status told told'
told_of_order giver (Asm source) shelf shelf' input input' old new told told' status does =
    subst (λ n. IsReportedBy n told told') (sym does.1) (told_done told told' does.0 does.2)
told_of_order giver (Mon script) shelf shelf' input input' old new told told' status does =
    subst (λ n. IsReportedBy n told told') (sym does.1) (told_done told told' does.0 does.2)
told_of_order giver (Debug source script) shelf shelf' input input' old new told told' status does =
    subst (λ n. IsReportedBy n told told') (sym does.1) (told_done told told' does.0 does.2)
told_of_order giver (Run order) shelf shelf' input input' old new told told' status does =
    subst (λ n. IsReportedBy n told told') (sym does.1) (told_run told told' does.0 does.2)

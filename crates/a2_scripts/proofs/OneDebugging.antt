-- A source with a script of debugger lines has one error or one output.
use Rattle.std.specs.Prelude.{codes}
use Rattle.std.specs.Option.{unwrap_or}
use Rattle.std.proofs.Common.{◌≡◌, ℕ, List, ◌++◌, Option, Some, None, refl, sym, ap, ◌∙◌, inl, inr}
use Rattle.std.proofs.lemmas.List.Elements.{All-nil}
use Rattle.a2_text.specs.Lines.{lines}
use Rattle.a2_syntax.specs.declared.fault.Fault.{Fault}
use Rattle.a2_syntax.specs.Limits.{size_error}
use Rattle.a2_asm.specs.Assembled.{Assembled}
use Rattle.a2_asm.specs.Programs.{AreAlike}
use Rattle.a2_debug_script.specs.Stored.{Stored, debugger_at_start}
use Rattle.a2_debug_script.specs.Texts.{debug_fault_text}
use Rattle.a2_debug_script.specs.Laws.{LookAlike}
use Rattle.a2_debug_script.proofs.Alike.{alike-back, both-alike}
use Rattle.a2_debug_script.proofs.OneAnswer.{one-answer, one-refusal, never-both}
use Rattle.a2_run.specs.declared.fault.RunFault.TheVariants.{Source, Script}
use Rattle.a2_run.specs.Meaning.{IsProgramOf}
use Rattle.a2_scripts.specs.DebugScripts.{Meets}
use Rattle.a2_scripts.specs.Laws.{OneDebugError, DebuggingWithErrorHasNoOutput, EachDebuggingHasOutput, ErrorOrDebugged, OneDebugOutput}
use Rattle.a2_scripts.proofs.Replying.{all_met, all_one}
use Rattle.a2_scripts.proofs.DebugScripting.{IsPast, each_line}
use Rattle.a2_run.proofs.OneText.{alike, first-refusal-one, refused-no-program}
use Rattle.a2_run.proofs.EachText.{refused-or-program}

-- a line has one text, and the states after it look alike
meets-one : (line text words : List ℕ) (old other new next : Stored) → LookAlike old other
    → Meets line old text new → Meets line other words next → (text ≡ words) × LookAlike new next
meets-one line text words old other new next like (inl a) (inl b) = one-answer line text words old other new next like a b
meets-one line text words old other new next like (inl a) (inr b) = absurd (never-both line text old other new b.fault like a b.refused)
meets-one line text words old other new next like (inr a) (inl b) =
    absurd (never-both line words other old next a.fault (alike-back old other like) b a.refused)
meets-one line text words old other new next like (inr a) (inr b) = (
  a.told ∙ ap (λ why. debug_fault_text why ++ codes "\n") (one-refusal line old other a.fault b.fault like a.refused b.refused) ∙ sym b.told,
  both-alike new next old other a.kept b.kept like,
)

debugger_at_start-alike : (p q : Assembled) → AreAlike p q → LookAlike (debugger_at_start p 0) (debugger_at_start q 0)
debugger_at_start-alike p q h = record { programs = h; log = refl; count = refl; breaks = refl; oldest = refl; reruns = refl }

pub one-debug-output : OneDebugOutput
one-debug-output source script output other a b =
    all_one Meets (codes ">") LookAlike meets-one (lines script) (debugger_at_start a.program 0) (debugger_at_start b.program 0) output other
    (debugger_at_start-alike a.program b.program (alike source a.program b.program a.is_program b.is_program)) a.answers b.answers

pub debugging-output : EachDebuggingHasOutput
debugging-output source script program is fits =
    let (output, are) = all_met Meets (codes ">") IsPast each_line (lines script) (debugger_at_start program 0) (All-nil _) in
    (output, record { program = program; is_program = is; fits = fits; answers = are })

pub one-debug-refusal : OneDebugError
one-debug-refusal source script (Source f) (Source g) a b = ap (λ fault. Source fault) (first-refusal-one source f g a b)
one-debug-refusal source script (Source f) (Script g) a b = absurd (refused-no-program source f b.0.0 a b.0.1)
one-debug-refusal source script (Script f) (Source g) a b = absurd (refused-no-program source g a.0.0 b a.0.1)
one-debug-refusal source script (Script f) (Script g) a b =
    let same : f ≡ g = ap (λ o. unwrap_or o f) (sym a.1 ∙ b.1) in ap (λ fault. Script fault) same
one-debug-refusal source script (Source f) other a b = absurd b
one-debug-refusal source script (Script f) other a b = absurd b
one-debug-refusal source script why other a b = absurd a

pub refused-undebugged : DebuggingWithErrorHasNoOutput
refused-undebugged source script output (Source f) a is = refused-no-program source f is.program a is.is_program
refused-undebugged source script output (Script f) a is = (let refused = a.1 in let fits = is.fits in cc)
refused-undebugged source script output why a is = absurd a

pub refused-or-debugged : ErrorOrDebugged
refused-or-debugged source script unrefused nothing =
    refused-or-program source (λ fault refused. unrefused (Source fault) refused) (λ program is. go program is (size_error script) refl)
  where
    go : (program : Assembled) → IsProgramOf source program → (o : Option Fault) → size_error script ≡ o → ⊥
    go program is (Some fault) e = unrefused (Script fault) ((program, is), e)
    go program is None e = let found = debugging-output source script program is e in nothing found.0 found.1

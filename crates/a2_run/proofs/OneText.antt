-- A text has at most one first error, and one run with its output; if it has an error, it has no program.
use Rattle.std.specs.Prelude.{◌≡◌, ℕ, Bool, true, false, List}
use Rattle.std.proofs.Common.{refl, sym, ap, ◌∙◌, subst, inl, inr}
use Rattle.a2_hex.specs.Images.{held}
use Rattle.a2_hex.specs.ObjectText.{object_text}
use Rattle.a2_syntax.proofs.OneReading.{one-source, refused-none}
use Rattle.a2_asm.specs.Assembled.{Assembled}
use Rattle.a2_asm.specs.Programs.{IsProgram, AreAlike}
use Rattle.a2_asm.specs.Refusals.{IsLayoutError}
use Rattle.a2_asm.proofs.MadeLaws.{one-layout_error, programs-alike}
use Rattle.a2_asm.proofs.MadeLaws as asm
use Rattle.a2_machine.specs.declared.causes.Cause.{Cause}
use Rattle.a2_machine.specs.ProgramGuard.{guard_of_program}
use Rattle.a2_machine.specs.Start.{start_world}
use Rattle.a2_machine.proofs.Runs.{end-unique}
use Rattle.a2_run.specs.declared.Options.{Options}
use Rattle.a2_syntax.proofs.EachReading.{one-refusal}
use Rattle.a2_run.specs.Laws.{OneRefusal, RefusedHasNoProgram, RefusedHasNoRun, RefusedHasNoObjectLines, OneCause, OneOutput, OneObjectText}
use Rattle.a2_run.specs.Meaning.{IsProgramOf, IsRun, code_of_run, start_of_run, output_of}

-- a text has one program, except for how its image is stored
pub alike : (text : List ℕ) (p q : Assembled) → IsProgramOf text p → IsProgramOf text q → AreAlike p q
alike text p q a b = programs-alike b.source p q (subst (λ s. IsProgram s p) (one-source text a.source b.source a.is_source b.is_source) a.is_program) b.is_program

held-same : (p q : Assembled) → AreAlike p q → held p.image ≡ held q.image
held-same p q h = λ i a. h.held_is a i

same-code : (free : Bool) (p q : Assembled) → AreAlike p q → code_of_run free p ≡ code_of_run free q
unfolding guard_of_program
same-code true p q h = refl
same-code false p q h = ap (λ s. code_of_run false (record p { statements = s })) h.statements_are

same-start : (keys : List ℕ) (p q : Assembled) → AreAlike p q → start_of_run p keys ≡ start_of_run q keys
same-start keys p q h = ap (λ im. start_world im p.entry keys) (held-same p q h) ∙ ap (λ en. start_world (held q.image) en keys) h.entry_is

one-end : (text keys : List ℕ) (limit : ℕ) (options : Options) (c d : Cause) (o u : List ℕ) (a : IsRun text keys limit options c o) (b : IsRun text keys limit options d u) → a.end ≡ b.end
one-end text keys limit options c d o u a b =
    let h = alike text a.program b.program a.is_program b.is_program in
    end-unique _ _ limit a.end b.end (rw (same-code options.free a.program b.program h, same-start keys a.program b.program h) at a.is_end) b.is_end

pub one-cause : OneCause
one-cause text keys limit options c d o u a b = a.cause_is ∙ ap (λ e. e.cause) (one-end text keys limit options c d o u a b) ∙ sym b.cause_is

pub one-output : OneOutput
one-output text keys limit options c d o u a b = a.output_is ∙ ap (λ e. output_of options.attr e) (one-end text keys limit options c d o u a b) ∙ sym b.output_is

pub one-object-text : OneObjectText
one-object-text text o u a b = a.output_is ∙ ap object_text (held-same a.program b.program (alike text a.program b.program a.is_program b.is_program)) ∙ sym b.output_is

-- a text with an error has no program, no run and no object lines
pub refused-no-program : RefusedHasNoProgram
refused-no-program text f p (inl a) b = refused-none text f b.source a b.is_source
refused-no-program text f p (inr (s, is, refused)) b =
    asm.refused-no-program s f p refused (subst (λ x. IsProgram x p) (one-source text b.source s b.is_source is) b.is_program)

pub refused-no-run : RefusedHasNoRun
refused-no-run text keys limit options f cause output a b = refused-no-program text f b.program a b.is_program

pub refused-no-lines : RefusedHasNoObjectLines
refused-no-lines text output f a b = refused-no-program text f b.program a b.is_program

-- a text has one first error
pub first-refusal-one : OneRefusal
first-refusal-one text f g (inl a) (inl b) = one-refusal text f g a b
first-refusal-one text f g (inl a) (inr (s, is, refused)) = absurd (refused-none text f s a is)
first-refusal-one text f g (inr (s, is, refused)) (inl b) = absurd (refused-none text g s b is)
first-refusal-one text f g (inr (s, is, refused)) (inr (t, it, other)) =
    one-layout_error t f g (subst (λ x. IsLayoutError x f) (one-source text s t is it) refused) other

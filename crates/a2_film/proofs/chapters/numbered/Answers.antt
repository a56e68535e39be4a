use Rattle.std.proofs.Common.{List, ℕ, sym, subst}
use Rattle.a2_run.specs.Limits.{IsStepLimit}
use Rattle.a2_film.proofs.ChapterLaws.{number_utf8, numbered_none, numbered_uncut}
use Rattle.a2_film.proofs.chapters.numbered.Goals as goal

pub returns-in_err-digits-clause-none : goal.returns-in_err-digits-clause-none
returns-in_err-digits-clause-none c = rw c.from_residual.ensures (numbered_uncut c.args.line.now c.in_err-digits.ensures.none)

pub returns-in_default-clause-none : goal.returns-in_default-clause-none
returns-in_default-clause-none c =
    numbered_none c.args.line.now c.in_ok-digits.digits.now c.in_ok-digits.text.now c.in_ok-digits.ensures.some
    (λ limit. c.in_default.ensures.cases.0 (number_utf8 c.in_ok-digits.digits.now limit))

pub returns-in_err-step_limit-clause-none : goal.returns-in_err-step_limit-clause-none
returns-in_err-step_limit-clause-none c =
    rw c.from_residual-in_err-step_limit.ensures
    (numbered_none c.args.line.now c.in_ok-digits.digits.now c.in_ok-digits.text.now c.in_ok-digits.ensures.some
    (λ limit. c.in_err-step_limit.ensures (subst (λ (w : List ℕ). IsStepLimit w) (sym c.in-Ok.ensures.cases.0) limit)))

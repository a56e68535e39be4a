use Rattle.std.proofs.Common.{sym, ap, ◌∙◌, subst, inr}
use Rattle.std.proofs.lemmas.Result.{IfOk-weaker}
use Rattle.a2_asm.specs.Every.{first_and_others}
use Rattle.a2_asm.specs.Pass.{source_rows}
use Rattle.a2_asm.specs.Refusals.{IsLayoutError}
use Rattle.a2_asm.proofs.RowLaws.{rows-fit}
use Rattle.a2_asm.proofs.EveryLaws.{each-of}
use Rattle.a2_asm.proofs.every.refusals.Goals as goal

pub returns : goal.returns
returns g c =
    let source = c.args.source.now in
    let first = c.in_ok-first.first in
    let refusal = subst (IsLayoutError source) (sym c.in_ok-first.ensures.same) (c.in-Err.ensures.refused c.in_ok-first.ensures.source) in
    IfOk-weaker c.first_and_others.result _ _
    (λ faults found. inr (
      first,
      source_rows source,
      refusal,
      rows-fit source,
      found ∙ ap (first_and_others first) (c.as_slice.ensures.value ∙ c.in_ok-told.ensures ∙ each-of c.lines-lines.result.now source c.lines-lines.ensures.is),
    ))
    c.first_and_others.ensures

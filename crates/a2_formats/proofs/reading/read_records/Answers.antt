use Rattle.std.proofs.Common.{◌∙◌, sym, arith}
use Rattle.a2_formats.proofs.ReadingLaws.{left-lines, is-refused}
use Rattle.a2_formats.proofs.reading.read_records.Goals as goal

pub loop-i-preserved : goal.loop-i-preserved
loop-i-preserved c = record {
  read = sym (left-lines _ c.deref-line-items.result.now c.loop-i.i _ _ (omega arith) c.in_ok-place.ensures.loaded) ∙ c.loop-i.invariant.read;
  small = c.in_ok-place.ensures.small;
}

pub returns-in_err-place-clause-refused : goal.returns-in_err-place-clause-refused
returns-in_err-place-clause-refused c =
    is-refused _ c.from_residual-in_err-place.result c.args.text.now _ c.from_residual-in_err-place.ensures.1
    (λ other. sym c.loop-i.invariant.read ∙ left-lines _ c.deref-line-items.result.now c.loop-i.i _ _ (omega arith) (c.in_err-place.ensures.refused other))

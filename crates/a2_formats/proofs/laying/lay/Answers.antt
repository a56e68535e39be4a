use Rattle.std.proofs.Common.{◌∙◌, sym, arith}
use Rattle.a2_formats.proofs.LayingLaws.{laid_ok, laid_err}
use Rattle.a2_formats.proofs.laying.lay.Goals as goal

pub returns-in-Err-clause-refused : goal.returns-in-Err-clause-refused
returns-in-Err-clause-refused c =
    sym c.loop-byte.invariant.laid ∙ laid_err _ _ _ _ c.loop-byte.byte-index _ _ (omega (arith, c.loop-byte-test.true)) c.in-Err.ensures.refused

pub loop-byte-preserved : goal.loop-byte-preserved
loop-byte-preserved c = record {
  laid = sym (laid_ok _ _ _ _ c.loop-byte.byte-index _ _ (omega (arith, c.loop-byte-test.true)) c.in-Ok.ensures.laid) ∙ c.loop-byte.invariant.laid;
  small = omega (arith, c.loop-byte.invariant.small);
}

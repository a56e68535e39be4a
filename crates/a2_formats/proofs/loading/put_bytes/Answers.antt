use Rattle.std.proofs.Common.{◌∙◌, sym, arith}
use Rattle.a2_formats.proofs.LoadingLaws.{overlaid_more}
use Rattle.a2_formats.proofs.loading.put_bytes.Goals as goal

pub loop-byte-preserved : goal.loop-byte-preserved
loop-byte-preserved c = record {
  image = sym (overlaid_more _ _ _ c.loop-byte.byte-index 0 c.args.bytes.now (omega (arith, c.loop-byte-test.true)) c.set.ensures) ∙ c.loop-byte.invariant.image;
  next = omega (arith, c.loop-byte.invariant.next);
}

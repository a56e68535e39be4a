use Rattle.std.proofs.Common.{refl, arith}
use Rattle.a2_page.proofs.Sending.{left_all, left_more, left_broke_off}
use Rattle.a2_hex.specs.Images.{held}
use Rattle.a2_list.proofs.Rows.{gap-next, gap-over, left_last}
use Rattle.a2_list.proofs.listing.put_lines.Goals as goal

pub loop-text-init : goal.loop-text-init
loop-text-init g c = record {
  counted = refl;
  left = rw (c.image-image.ensures, c.statements-rest.ensures) (left_all _ _);
}

pub returns-in_err-put_line : goal.returns-in_err-put_line
returns-in_err-put_line g c =
    left_broke_off _ _ _ c.from_residual.result _ _ _ _ c.from_residual.ensures.0
    (gap-next c.args.cycles (held c.image-image.result.now) c.loop-text.rest.now c.loop-text.number c.loop-text.text-index c.args.texts.now _ _ _ c.split_line-own.ensures.own c.split_line-own.ensures.later c.loop-text-test.true)
    c.loop-text.invariant.left c.in_err-put_line.ensures

pub loop-text-preserved : goal.loop-text-preserved
loop-text-preserved g c = record {
  counted = omega (arith, c.loop-text.invariant.counted);
  left = left_more _ _ _ _ _ _ _
      (gap-next c.args.cycles (held c.image-image.result.now) c.loop-text.rest.now c.loop-text.number c.loop-text.text-index c.args.texts.now _ _ _ c.split_line-own.ensures.own c.split_line-own.ensures.later c.loop-text-test.true)
      c.loop-text.invariant.left c.in_ok-put_line.ensures;
}

pub returns : goal.returns
returns g c =
    left_last _ _ _ c.put.result _ _ _
    (gap-over c.args.cycles (held c.image-image.result.now) c.loop-text.rest.now c.loop-text.number c.loop-text.text-index c.args.texts.now (omega (arith, c.loop-text-test.false)))
    c.loop-text.invariant.left c.put.ensures

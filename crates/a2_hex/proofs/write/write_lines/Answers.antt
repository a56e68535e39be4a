use Rattle.std.proofs.Common.{◌∙◌, arith, inl, inr}
use Rattle.a2_hex.specs.Images.{held}
use Rattle.a2_hex.proofs.WriteLaws.{gathered-none, gathered-same, gathered-more, gathered-broke, gathered-all}
use Rattle.a2_hex.proofs.write.write_lines.Goals as goal
use Rattle.a2_hex.proofs.write.write_lines.Goals.{in-Some+in_ok-gather, in_default}

pub loop-address-init : goal.loop-address-init
loop-address-init g c = rw c.new-piece.ensures (gathered-none (g.W.Output.taker c.args.writer.now) (held c.args.image.now) _ (λ a lt. c.bounds-start.ensures.within a (inl lt)))

pub returns-in_err-gather : goal.returns-in_err-gather
returns-in_err-gather g c = gathered-broke c.loop-address.invariant _ (g.W.Output.taker c.gather.new.writer) c.from_residual.ensures.0 c.in_err-gather.ensures (omega arith)

pub loop-address-preserved : goal.loop-address-preserved
loop-address-preserved g c =
    elim c.match-begun.branch [
      | in-Some+in_ok-gather w ↦
          rw (w.writer-is, w.piece-is) (gathered-more c.loop-address.invariant (g.W.Output.taker w.gather.new.writer) _ w.gather.new.piece.items w.in_ok-gather.ensures
          (w.as_slice.ensures.value ∙ w.line_at-line.ensures) w.in-Some.ensures.0)
      | in_default w ↦ rw (w.writer-is, w.piece-is) (gathered-same c.loop-address.invariant w.in_default.ensures)
    ]

pub returns : goal.returns
returns g c =
    gathered-all c.loop-address.invariant c.put.result (g.W.Output.taker c.put.new.writer) c.bounds-start.result.1 (λ a le. c.bounds-start.ensures.within a (inr le))
    c.loop-address-test.false c.bounds-start.ensures.end (rw c.as_slice-2.ensures.value at c.put.ensures)

use Rattle.std.proofs.Common.{◌+◌, ◌-◌, ◌≤◌, ◌∙◌, ap, sym, subst, refl, arith}
use Rattle.a2_stream.specs.Stream.{Sends, Breaks}
use Rattle.a2_page.proofs.Sending.{left_all, left_more, left_none, left_broke_off}
use Rattle.a2_picture.specs.declared.checksums.Sums.{Sums}
use Rattle.a2_picture.specs.Checksums.{sums_after}
use Rattle.a2_picture.specs.Png.{blocks_text, block_text, lines, pieces, row_lines, row_text}
use Rattle.a2_picture.proofs.Pieces.{next_piece, no_piece, sums-append}
use Rattle.a2_picture.proofs.picture.put_rows.Goals as goal

pub loop-y-init : goal.loop-y-init
unfolding blocks_text lines
loop-y-init g c = record {
  sent = left_all _ _;
  sums = refl;
  low = omega arith;
  high = omega arith;
}

pub returns-in_err-put_block-clause-sent : goal.returns-in_err-put_block-clause-sent
returns-in_err-put_block-clause-sent g c =
    left_broke_off _ _ _ c.from_residual.result _ _ _ _ c.from_residual.ensures.0
    (next_piece (row_text c.args.ram.now c.args.switches) 192 c.loop-y.y c.loop-y-test.true)
    c.loop-y.invariant.sent
    (subst (λ xs. Breaks (g.W.Output.taker c.loop-y.writer) (g.W.Output.taker c.put_block.new.writer) (block_text xs)) (c.as_slice-in-loop-y.ensures.value ∙ c.lines_of-lines.ensures.bytes) c.in_err-put_block.ensures)

pub loop-y-preserved : goal.loop-y-preserved
loop-y-preserved g c = record {
  sent =
      left_more _ _ _ _ _ _ _
      (next_piece (row_text c.args.ram.now c.args.switches) 192 c.loop-y.y c.loop-y-test.true)
      c.loop-y.invariant.sent
      (subst (λ xs. Sends (g.W.Output.taker c.loop-y.writer) (g.W.Output.taker c.put_block.new.writer) (block_text xs)) (c.as_slice-in-loop-y.ensures.value ∙ c.lines_of-lines.ensures.bytes) c.in_ok-put_block.ensures);
  sums =
      ap (λ (s : Sums). sums_after s (pieces (row_lines c.args.ram.now c.args.switches) (c.loop-y.y + 1) (192 - (c.loop-y.y + 1)))) (c.sums_after-sums.ensures.value ∙ ap (sums_after c.loop-y.sums) (c.as_slice.ensures.value ∙ c.lines_of-lines.ensures.bytes))
      ∙ sym (sums-append c.loop-y.sums (row_lines c.args.ram.now c.args.switches c.loop-y.y) (pieces (row_lines c.args.ram.now c.args.switches) (c.loop-y.y + 1) (192 - (c.loop-y.y + 1))))
      ∙ ap (sums_after c.loop-y.sums) (sym (next_piece (row_lines c.args.ram.now c.args.switches) 192 c.loop-y.y c.loop-y-test.true))
      ∙ c.loop-y.invariant.sums;
  low = c.sums_after-sums.ensures.low;
  high = c.sums_after-sums.ensures.high;
}

pub returns-clause-sent : goal.returns-clause-sent
returns-clause-sent g c =
    let all : 192 ≤ c.loop-y.y = omega (arith, c.loop-y-test.false) in
    left_none _ _ _ _ (no_piece (row_text c.args.ram.now c.args.switches) 192 c.loop-y.y all) c.loop-y.invariant.sent

pub returns-clause-sums : goal.returns-clause-sums
returns-clause-sums g c =
    let all : 192 ≤ c.loop-y.y = omega (arith, c.loop-y-test.false) in
    ap (sums_after c.loop-y.sums) (sym (no_piece (row_lines c.args.ram.now c.args.switches) 192 c.loop-y.y all)) ∙ c.loop-y.invariant.sums

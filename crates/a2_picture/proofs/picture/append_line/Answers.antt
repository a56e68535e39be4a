use Rattle.std.proofs.Common.{◌≤◌, ◌++◌, ◌∷◌, [], ◌∙◌, ap, sym, arith, append_assoc}
use Rattle.std.proofs.lemmas.Grind.{common_steps}
use Rattle.std.proofs.lemmas.List.{append-nil}
use Rattle.a2_picture.specs.Png.{line, pieces, pixels}
use Rattle.a2_picture.proofs.Pieces.{next_piece, no_piece}
use Rattle.a2_picture.proofs.picture.append_line.Goals as goal

pub loop-x-init : goal.loop-x-init
unfolding line
loop-x-init c = record {
  bytes = rw c.push.ensures.items (append_assoc c.args.lines.now.items (0 ∷ []) (pieces (pixels c.args.ram.now c.args.switches c.args.y) 0 280));
  size = omega (arith, c.push.ensures.len);
  inside = omega arith;
}

pub loop-x-preserved : goal.loop-x-preserved
unfolding pixels
loop-x-preserved c = record {
  bytes = grind (arith, common_steps, c.loop-x.invariant.bytes, next_piece (pixels c.args.ram.now c.args.switches c.args.y) 280 c.loop-x.x c.loop-x-test.true);
  size = omega (arith, c.loop-x.invariant.size, c.push-in-loop-x.ensures.len, c.push-in-loop-x-2.ensures.len);
  inside = omega (arith, c.loop-x-test.true);
}

pub returns-clause-bytes : goal.returns-clause-bytes
returns-clause-bytes c =
    let all : 280 ≤ c.loop-x.x = omega (arith, c.loop-x-test.false) in
    sym (append-nil c.loop-x.lines.items)
    ∙ ap (λ xs. c.loop-x.lines.items ++ xs) (sym (no_piece (pixels c.args.ram.now c.args.switches c.args.y) 280 c.loop-x.x all))
    ∙ c.loop-x.invariant.bytes

use Rattle.std.proofs.Common.{◌<◌, ◌-◌, sym, ◌∙◌, length, take, drop, ap, arith}
use Rattle.std.proofs.lemmas.List.{map_push, take_rest, length_push, length-drop}
use Rattle.a2_syntax.specs.Pieces.{is_over}
use Rattle.a2_syntax.proofs.Going.{goes-more, goes-end, goes-none}
use Rattle.a2_syntax.proofs.PieceLaws.{following-within, Spells-over, Spells-more, Spells-parts}
use Rattle.a2_syntax.proofs.piece.pieces.Goals as goal

pub returns-then-is_over-clause-read : goal.returns-then-is_over-clause-read
returns-then-is_over-clause-read g c = λ is.
    goes-end c.pieces.invariant.reads (Spells-over c.pieces.rest.now (ap is_over (sym c.after_blanks-here.ensures) ∙ sym c.is_over.ensures ∙ c.if-is_over.true))

pub returns-then-n-eq0-clause-none : goal.returns-then-n-eq0-clause-none
returns-then-n-eq0-clause-none g c = λ is. goes-none c.pieces.invariant.reads
    (λ ps h. (let (some, _, _) = Spells-parts c.pieces.rest.now _ ps c.after_blanks-here.ensures (sym c.is_over.ensures ∙ c.if-is_over.false) h in omega (arith, some, c.piece_len-n.ensures.is)))

pub pieces-preserved : goal.pieces-preserved
pieces-preserved g c =
    let here = c.after_blanks-here.result.now in
    let at = c.after_blanks-here.ensures in
    let n = c.piece_len-n.ensures.is in
    let next = take_rest here c.piece_len-n.result in
    let shorter : length (take (length here - c.piece_len-n.result) (drop c.piece_len-n.result here)) < length c.pieces.rest.now =
    omega (arith, ap length next, length-drop c.piece_len-n.result here, following-within c.pieces.rest.now here at) in
    record {
      reads = rw (c.push_reserved.ensures.items, map_push, next, n) (goes-more _ c.pieces.invariant.reads
          (λ ps h. Spells-more c.pieces.rest.now here ps at (omega (arith, n)) h)
          (λ ps h. (let (_, more, is) = Spells-parts c.pieces.rest.now here ps at (sym c.is_over.ensures ∙ c.if-is_over.false) h in (more, is))));
      count = omega (arith, rw length_push at (ap length c.push_reserved.ensures.items), shorter, c.pieces.invariant.count);
      room = omega (arith, c.push_reserved.ensures.len, c.push_reserved.ensures.capacity, shorter, c.pieces.invariant.room);
    }

use Rattle.std.proofs.Common.{ap, sym, refl}
use Rattle.a2_promise.specs.declared.promises.Block.{Block}
use Rattle.a2_promise.specs.Reading.{State}
use Rattle.a2_promise.proofs.Above.{line_read}
use Rattle.a2_promise.proofs.Laying.{ok_always}
use Rattle.a2_promise.proofs.finding.take_line.Goals as goal
use Rattle.a2_promise.proofs.finding.take_line.Goals.{then-block-eq0, else-block-eq0}

pub returns-in-Ok : goal.returns-in-Ok
returns-in-Ok c =
    let begun = c.new-reader.ensures.state in
    let added = c.in-Ok.ensures (ap (λ (s : State). s.parts) begun) (ap (λ (s : State). s.scope.around) begun) in
    let is = rw (ap (λ (s : State). s.scope.names) begun, c.new-reader.ensures.rest) at added in
    ok_always c.note_labels.result (elim c.if-block-eq0.branch [
      | then-block-eq0 w ↦
          line_read c.args.block.now _ is (ap (λ (b : Block). b.promise) (sym w.block-is)) (ap (λ (b : Block). b.is_within) (sym w.block-is))
          (ap (λ (b : Block). b.refused) (sym w.block-is)) refl refl refl
      | else-block-eq0 w ↦
          line_read c.args.block.now _ is (ap (λ (b : Block). b.promise) (sym w.block-is)) (ap (λ (b : Block). b.is_within) (sym w.block-is))
          (ap (λ (b : Block). b.refused) (sym w.block-is)) refl refl refl
    ])

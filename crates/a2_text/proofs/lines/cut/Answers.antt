use Rattle.std.proofs.Common.{ℕ, ◌+◌, eqb, not, ◌++◌, ◌<◌, length, map, sym, ap, ◌∙◌, arith, rules}
use Rattle.std.proofs.lemmas.List.{map-append, take_rest, append-nil, nil_from_length}
use Rattle.std.proofs.lemmas.List.Sums.{prefix_len-le-length}
use Rattle.a2_text.specs.Lines.{lines}
use Rattle.a2_text.proofs.Cutting.{cut_more, cut_last}
use Rattle.a2_text.proofs.lines.cut.Goals as goal
use Rattle.a2_text.proofs.lines.cut.Goals.{else-loop-rest-test, then-loop-rest-test+in_ok-push+then-end-rest}

pub loop-rest-preserved : goal.loop-rest-preserved
loop-rest-preserved g c =
    let below = prefix_len-le-length (λ (x : ℕ). not (eqb x 10)) c.loop-rest.rest.now in
    let lt : c.front_len-end.result < length c.loop-rest.rest.now = omega (arith, below, (c.front_len-end.ensures.is (λ x. not (eqb x 10)) (λ x t k. search rules))) in
    rw (c.in_ok-push.ensures.items, map-append) (cut_more _ c.loop-rest.rest.now c.args.text.now _ _ c.front_len-end.result c.loop-rest.invariant (c.front_len-end.ensures.is (λ x. not (eqb x 10)) (λ x t k. search rules)) lt c.trimmed.ensures (take_rest c.loop-rest.rest.now (c.front_len-end.result + 1)))

pub returns : goal.returns
returns g c =
    elim c.loop-rest-test.branch [
      | else-loop-rest-test w ↦
          let none = nil_from_length c.loop-rest.rest.now (omega arith) in
          rw w.found-is (sym (append-nil _) ∙ ap (λ x. map (λ y. y.now) c.loop-rest.found.items ++ lines x) (sym none) ∙ c.loop-rest.invariant)
      | then-loop-rest-test+in_ok-push+then-end-rest w ↦
          rw (w.found-is, w.in_ok-push.ensures.items, map-append) (cut_last _ c.loop-rest.rest.now c.args.text.now _ w.front_len-end.result c.loop-rest.invariant (w.front_len-end.ensures.is (λ x. not (eqb x 10)) (λ x t k. search rules)) w.if-end-rest.true (omega arith) w.trimmed.ensures)
    ]

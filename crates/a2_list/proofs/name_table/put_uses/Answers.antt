use Rattle.std.proofs.Common.{◌+◌, ◌++◌, ℕ, List, [], Bool, true, false, codes, drop, sym, ap, ◌∙◌, subst, arith}
use Rattle.std.proofs.lemmas.List.{append-nil}
use Rattle.a2_page.proofs.Sending.{IsLeft, left_all, left_more, left_broke_off}
use Rattle.a2_list.specs.Uses.{uses}
use Rattle.a2_list.specs.NameTable.{numbers}
use Rattle.a2_list.proofs.Rows.{left_last}
use Rattle.a2_list.proofs.UseLaws.{uses-next, rest_of, rest-next, rest-over}
use Rattle.a2_list.proofs.name_table.put_uses.Goals as goal
use Rattle.a2_list.proofs.name_table.put_uses.Goals.{then-is_used_in+in_ok-put_all, else-is_used_in}

pub loop-index-init : goal.loop-index-init
loop-index-init g c = left_all (g.W.Output.taker c.args.writer.now) (numbers (uses c.args.name.now 1 c.args.lines.now) ++ codes "\n")

pub returns-in_err-put_all : goal.returns-in_err-put_all
returns-in_err-put_all g c =
    let i = c.loop-index.index in
    let next = uses-next c.args.name.now (i + 1) i c.args.lines.now c.index-lines-index.result true c.index-lines-index.is (sym c.if-is_used_in.true ∙ c.is_used_in.ensures) c.loop-index-test.true in
    left_broke_off _ _ _ c.from_residual.result _ _ _ _ c.from_residual.ensures.0
    (ap (rest_of c.loop-index.used) next ∙ rest-next c.loop-index.used (i + 1) (uses c.args.name.now (i + 1 + 1) (drop (i + 1) c.args.lines.now)))
    c.loop-index.invariant (rw (c.as_slice.ensures.value, c.decimal.ensures, append-nil) at c.in_err-put_all.ensures)

pub loop-index-preserved : goal.loop-index-preserved
loop-index-preserved g c =
    let i = c.loop-index.index in
    let name = c.args.name.now in
    let lines = c.args.lines.now in
    elim c.if-is_used_in.branch [
      | then-is_used_in+in_ok-put_all w ↦ rw (w.writer-is, w.used-is) (left_more _ _ _ _ _ _ _
          (ap (rest_of c.loop-index.used) (uses-next name (i + 1) i lines c.index-lines-index.result true c.index-lines-index.is (sym w.if-is_used_in.true ∙ c.is_used_in.ensures) c.loop-index-test.true)
          ∙ rest-next c.loop-index.used (i + 1) (uses name (i + 1 + 1) (drop (i + 1) lines)))
          c.loop-index.invariant (rw (w.as_slice.ensures.value, w.decimal.ensures, append-nil) at w.in_ok-put_all.ensures))
      | else-is_used_in w ↦ rw (w.writer-is, w.used-is)
          (subst (λ (ns : List ℕ). IsLeft (g.W.Output.taker c.args.writer.now) (g.W.Output.taker c.loop-index.writer) (numbers (uses name 1 lines) ++ codes "\n") (rest_of c.loop-index.used ns))
          (uses-next name (i + 1) i lines c.index-lines-index.result false c.index-lines-index.is (sym w.if-is_used_in.false ∙ c.is_used_in.ensures) c.loop-index-test.true)
          c.loop-index.invariant)
    ]

pub returns-then-used : goal.returns-then-used
returns-then-used g c =
    left_last _ _ _ c.put.result _ _ _
    (rest-over c.loop-index.used c.args.name.now (c.loop-index.index + 1) c.loop-index.index c.args.lines.now (omega (arith, c.loop-index-test.false)) ∙ ap (λ (b : Bool). rest_of b []) c.if-used.true)
    c.loop-index.invariant c.put.ensures

pub returns-else-used : goal.returns-else-used
returns-else-used g c =
    left_last _ _ _ c.put-else-used.result _ _ _
    (rest-over c.loop-index.used c.args.name.now (c.loop-index.index + 1) c.loop-index.index c.args.lines.now (omega (arith, c.loop-index-test.false)) ∙ ap (λ (b : Bool). rest_of b []) c.if-used.false)
    c.loop-index.invariant c.put-else-used.ensures

use Rattle.std.proofs.Common.{ℕ, List, [], ◌∷◌, ◌++◌, ◌+◌, Bor, sym, arith}
use Rattle.std.proofs.lemmas.List.{map-append, length-map}
use Rattle.a2_syntax.specs.declared.fault.Fault.TheVariants.{Syntax}
use Rattle.a2_check.proofs.Numbering.{read-next, unread-next, all-unread}
use Rattle.a2_check.proofs.unread.unread.Goals as goal
use Rattle.a2_check.proofs.unread.unread.Goals.{then-not-branch+in_ok-push, else-not-branch}

pub loop-text-preserved : goal.loop-text-preserved
loop-text-preserved g c =
    let texts = c.args.texts.now in
    let i = c.loop-text.text-index in
    let f = c.loop-text.invariant.found in
    record {
      counted = omega (arith, c.loop-text.invariant.counted);
      found = elim c.if-not-branch.branch [
        | then-not-branch+in_ok-push w ↦ (
          f.0 ++ (i + 1) ∷ [],
          rw (w.faults-is, w.in_ok-push.ensures.items, f.1, c.loop-text.invariant.counted) (sym (map-append Syntax f.0 ((i + 1) ∷ []))),
          unread-next texts i f.0 _ f.2 c.loop-text-test.true (c.in_ok-is_read.ensures.unread w.if-not-branch.true),
        )
        | else-not-branch w ↦ (f.0, rw w.faults-is f.1, read-next texts i f.0 _ f.2 c.loop-text-test.true (c.in_ok-is_read.ensures.read w.if-not-branch.false))
      ];
    }

pub returns : goal.returns
returns g c =
    let f = c.loop-text.invariant.found in
    (f.0, f.1, all-unread _ c.loop-text.text-index f.0 f.2 (omega (arith, c.loop-text-test.false, length-map c.args.texts.now (λ (x : Bor (List ℕ)). x.now))))

use Rattle.std.proofs.Common.{◌≡◌, ◌+◌, length, take, sym, ◌∙◌, Option, arith}
use Rattle.std.proofs.lemmas.List.{drop_all, append_assoc, append-nil, length-take-le}
use Rattle.std.proofs.lemmas.List.Sums.{fold-append}
use Rattle.a2_asm.specs.Every.{labels, refuse_by_names, refuse_names_in, by_names}
use Rattle.a2_syntax.specs.declared.fault.Fault.{Fault}
use Rattle.a2_asm.proofs.Steps.{read}
use Rattle.a2_asm.proofs.EveryLaws.{each-more}
use Rattle.a2_asm.proofs.every.by_names.Goals as goal
use Rattle.a2_asm.proofs.every.by_names.Goals.{in-Some+in_ok-push, in_default}

pub loop-line-preserved : goal.loop-line-preserved
loop-line-preserved g c =
    let lines = c.args.lines.now in
    let i = c.loop-line.line-index in
    let line = c.line-item.result in
    let p = c.loop-line.invariant in
    let number : c.loop-line.n ≡ length (take i lines) + 1 = omega (arith, length-take-le i lines) in
    let here = sym (c.refuse_names_in.ensures ∙ (λ j. refuse_names_in (c.in_ok-all.ensures j) (p.labelled j) (number j) line)) in
    let more = λ (o : Option Fault) (is : c.refuse_names_in.result ≡ o).
    each-more (refuse_by_names (labels lines)) lines i line o c.loop-line.faults.items (by_names lines) c.loop-line-test.true c.line-item.is (here ∙ is) p.told in
    record {
      index = omega arith;
      labelled = grind (arith, read, fold-append);
      told = elim c.match-refuse_names_in.branch [
        | in-Some+in_ok-push w ↦ rw (w.faults-is, w.in_ok-push.ensures.items, append_assoc) (more _ w.in-Some.is)
        | in_default w ↦ rw w.faults-is (more _ w.in_default.is)
      ];
    }

pub returns : goal.returns
returns g c = grind (arith, drop_all, append-nil)

use Rattle.std.proofs.Common.{◌-◌, [], true, false, map, reverse, ap, sym, ◌∙◌, arith}
use Rattle.std.proofs.lemmas.List.{length-map, take_all}
use Rattle.a2_promise.specs.Grammar.{number_among}
use Rattle.a2_promise.proofs.States.{among_here, among_before, named_at}
use Rattle.a2_promise.proofs.reader.innermost.Goals as goal

pub loop-number-init : goal.loop-number-init
loop-number-init c =
    let names = map (λ one. one.now) c.args.names.now in
    let l = length-map c.args.names.now (λ one. one.now) in
    (omega arith, ap (λ names. number_among (reverse names) c.args.name.now) (sym (take_all _ names (omega (arith, l)))))

pub returns-then-eq-clause-number : goal.returns-then-eq-clause-number
returns-then-eq-clause-number c =
    let names = map (λ one. one.now) c.args.names.now in
    let l = length-map c.args.names.now (λ one. one.now) in
    sym (c.loop-number.invariant.1
    ∙ among_here names c.loop-number.number c.args.name.now c.loop-number-test.true (omega (arith, l, c.loop-number.invariant.0))
    (named_at (λ one. one.now) c.args.names.now (c.loop-number.number - 1) c.args.name.now (record { ref_ptr = (0, 0); now = [] }) true
    (omega arith) (sym c.if-eq.ensures)))

pub loop-number-preserved : goal.loop-number-preserved
loop-number-preserved c =
    let names = map (λ one. one.now) c.args.names.now in
    let l = length-map c.args.names.now (λ one. one.now) in (
      omega arith,
      c.loop-number.invariant.1
          ∙ among_before names c.loop-number.number c.args.name.now c.loop-number-test.true (omega (arith, l, c.loop-number.invariant.0))
          (named_at (λ one. one.now) c.args.names.now (c.loop-number.number - 1) c.args.name.now (record { ref_ptr = (0, 0); now = [] }) false
          (omega arith) (sym c.if-eq.ensures)),
    )

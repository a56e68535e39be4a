use Rattle.std.proofs.Common.{◌/◌, ◌%◌, ◌++◌, List, ℕ, length, length-append, sym, ap, ◌∙◌, arith, lit<, refl}
use Rattle.std.specs.Fmt.{decimal}
use Rattle.std.proofs.lemmas.List.{append_assoc}
use Rattle.std.proofs.lemmas.Fmt.{decimal_digit, decimal_nonempty, length-decimal-le}
use Rattle.a2_trace.specs.Traced.{decimal_pair}
use Rattle.a2_trace.proofs.Pairs.{last-pair, both-digits}
use Rattle.a2_trace.proofs.line.Line.put_number.Goals as goal

pub loop-rest-init : goal.loop-rest-init
loop-rest-init c = record {
  text = refl;
  room = omega (arith, length-decimal-le 20 c.args.number (lit< tt) (omega (arith, c.ranges.number.fits)) c.ranges.number.fits);
}

pub put_text-requires : goal.put_text-requires
put_text-requires c =
    let rest = c.loop-rest.rest in
    omega (
      arith,
      c.requires,
      c.loop-rest.invariant.room,
      ap length c.decimal_pair.ensures,
      ap length (last-pair rest c.loop-rest-test.true c.loop-rest.auto.rest-fits.fits),
      length-append (decimal (rest / 100)) (decimal_pair (rest % 100)),
    )

pub loop-rest-preserved : goal.loop-rest-preserved
loop-rest-preserved c =
    let rest = c.loop-rest.rest in
    let pair = c.decimal_pair.result in
    let step = last-pair rest c.loop-rest-test.true c.loop-rest.auto.rest-fits.fits in
    record {
      text = ap (λ (l : List ℕ). decimal (rest / 100) ++ l) c.put_text.ensures
          ∙ sym (append_assoc (decimal (rest / 100)) pair c.loop-rest.self)
          ∙ ap (λ (l : List ℕ). l ++ c.loop-rest.self) (ap (λ (l : List ℕ). decimal (rest / 100) ++ l) c.decimal_pair.ensures ∙ sym step)
          ∙ c.loop-rest.invariant.text;
      room = omega (
        arith,
        c.loop-rest.invariant.room,
        ap length c.put_text.ensures,
        ap length step,
        ap length c.decimal_pair.ensures,
        length-append (decimal (rest / 100)) (decimal_pair (rest % 100)),
        length-append pair c.loop-rest.self,
      );
    }

pub put_text-requires-then-rest-ge10 : goal.put_text-requires-then-rest-ge10
put_text-requires-then-rest-ge10 c =
    omega (
      arith,
      c.requires,
      c.loop-rest.invariant.room,
      ap length c.decimal_pair-then-rest-ge10.ensures,
      ap length (both-digits c.loop-rest.rest c.if-rest-ge10.true c.loop-rest-test.false),
    )

pub put-requires : goal.put-requires
put-requires c =
    omega (arith, c.requires, c.loop-rest.invariant.room, decimal_nonempty c.loop-rest.rest c.loop-rest.auto.rest-fits.fits)

pub returns-then-rest-ge10-clause-bytes : goal.returns-then-rest-ge10-clause-bytes
returns-then-rest-ge10-clause-bytes c =
    c.put_text-then-rest-ge10.ensures
    ∙ ap (λ (l : List ℕ). l ++ c.loop-rest.self)
    (c.decimal_pair-then-rest-ge10.ensures ∙ sym (both-digits c.loop-rest.rest c.if-rest-ge10.true c.loop-rest-test.false))
    ∙ c.loop-rest.invariant.text

pub returns-then-rest-ge10-clause-length : goal.returns-then-rest-ge10-clause-length
returns-then-rest-ge10-clause-length c =
    omega (
      arith,
      c.loop-rest.invariant.room,
      ap length c.put_text-then-rest-ge10.ensures,
      ap length c.decimal_pair-then-rest-ge10.ensures,
      length-append c.decimal_pair-then-rest-ge10.result c.loop-rest.self,
      ap length (both-digits c.loop-rest.rest c.if-rest-ge10.true c.loop-rest-test.false),
    )

pub returns-else-rest-ge10-clause-bytes : goal.returns-else-rest-ge10-clause-bytes
returns-else-rest-ge10-clause-bytes c =
    c.put.ensures
    ∙ ap (λ (l : List ℕ). l ++ c.loop-rest.self) (sym (decimal_digit c.loop-rest.rest c.if-rest-ge10.false))
    ∙ c.loop-rest.invariant.text

pub returns-else-rest-ge10-clause-length : goal.returns-else-rest-ge10-clause-length
returns-else-rest-ge10-clause-length c =
    omega (arith, c.loop-rest.invariant.room, ap length c.put.ensures, decimal_nonempty c.loop-rest.rest c.loop-rest.auto.rest-fits.fits)

use Rattle.std.proofs.Common.{◌∷◌, length, sym, ap, ◌∙◌, arith}
use Rattle.std.proofs.lemmas.List.{length_push}
use Rattle.a2_syntax.proofs.PlainLaws.{place, placed-shorter, numbers-end, numbers-more}
use Rattle.a2_syntax.proofs.plain.numbers.Goals as goal

pub numbers-init : goal.numbers-init
numbers-init g c = record { reads = rw c.in_ok-found.ensures.items (record { back = λ es h. h }); count = omega (arith, ap length c.in_ok-found.ensures.items, c.requires) }

pub returns-then-is_over : goal.returns-then-is_over
returns-then-is_over g c =
    let placed = place c.numbers.rest.now c.after_blanks.ensures c.split_name_bytes.ensures.word c.split_name_bytes.ensures.rest (sym c.number.ensures ∙ c.in-Some.is) c.after_blanks-next.ensures in
    rw (c.of.ensures, c.in_ok-push.ensures.items, c.in_ok-one_number.ensures) (numbers-end placed c.numbers.invariant.reads (sym c.is_over.ensures ∙ c.if-is_over.true))

pub numbers-preserved : goal.numbers-preserved
numbers-preserved g c =
    let placed = place c.numbers.rest.now c.after_blanks.ensures c.split_name_bytes.ensures.word c.split_name_bytes.ensures.rest (sym c.number.ensures ∙ c.in-Some.is) c.after_blanks-next.ensures in
    let comma = c.in-Some-split_first.ensures.cases.0 ∙ ap (λ k. k ∷ c.in-Some-split_first.more.now) c.if-sign-ne44.false in
    record {
      reads = rw (c.in_ok-push.ensures.items, c.in_ok-one_number.ensures) (numbers-more placed c.numbers.invariant.reads comma);
      count = omega (arith, rw length_push at (ap length c.in_ok-push.ensures.items), ap length comma, placed-shorter placed, c.numbers.invariant.count);
    }

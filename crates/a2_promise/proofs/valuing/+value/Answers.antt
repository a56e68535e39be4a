use native.Mathlib.Numerals.{unary_clauses}
use Rattle.a2_promise.proofs.valuing.+value.Goals as goal

pub each_below-loop-number-preserved : goal.each_below-loop-number-preserved
each_below-loop-number-preserved g t c =
    simp unary_clauses (rw (c.chosen-holds.ensures, c.value_at.ensures, c.with_bound.ensures, c.loop-number.invariant))

pub sum_below-loop-number-preserved : goal.sum_below-loop-number-preserved
sum_below-loop-number-preserved g t c =
    simp unary_clauses (rw (c.operated_on-sum.ensures, c.value_at.ensures, c.with_bound.ensures, c.loop-number.invariant))

pub value_at-returns-in_ok-count-in-Each : goal.value_at-returns-in_ok-count-in-Each
value_at-returns-in_ok-count-in-Each g t c =
    rw (
      c.in-Each.is,
      ← c.deref-in-Each.ensures,
      ← c.deref-in-Each-2.ensures,
      ← c.value_at-in-Each.ensures,
      ← c.count_of.ensures,
      c.in_ok-count-in-Each.was,
    ) c.each_below.ensures

pub value_at-returns-in_err-count-in-Each : goal.value_at-returns-in_err-count-in-Each
value_at-returns-in_err-count-in-Each g t c =
    rw (c.in-Each.is, ← c.deref-in-Each.ensures, ← c.value_at-in-Each.ensures, ← c.count_of.ensures, c.in_err-count-in-Each.was)
    c.from_residual-in_err-count-in-Each.ensures

pub value_at-returns-in_ok-count-in-Sum : goal.value_at-returns-in_ok-count-in-Sum
value_at-returns-in_ok-count-in-Sum g t c =
    rw (
      c.in-Sum.is,
      ← c.deref-in-Sum.ensures,
      ← c.deref-in-Sum-2.ensures,
      ← c.value_at-in-Sum.ensures,
      ← c.count_of-in-Sum.ensures,
      c.in_ok-count-in-Sum.was,
    ) c.sum_below.ensures

pub value_at-returns-in_err-count-in-Sum : goal.value_at-returns-in_err-count-in-Sum
value_at-returns-in_err-count-in-Sum g t c =
    rw (c.in-Sum.is, ← c.deref-in-Sum.ensures, ← c.value_at-in-Sum.ensures, ← c.count_of-in-Sum.ensures, c.in_err-count-in-Sum.was)
    c.from_residual-in_err-count-in-Sum.ensures

pub value_at-returns-in_ok-there-in-At : goal.value_at-returns-in_ok-there-in-At
value_at-returns-in_ok-there-in-At g t c =
    rw (c.in-At.is, c.in_ok-there-in-At.ensures, ← c.deref-in-At.ensures) c.value_at-in-At.ensures

pub value_at-returns-in-Pair : goal.value_at-returns-in-Pair
value_at-returns-in-Pair g t c =
    rw (c.in-Pair.is, ← c.deref-in-Pair.ensures, ← c.deref-in-Pair-2.ensures, ← c.value_at-in-Pair.ensures, ← c.value_at-in-Pair-2.ensures)
    c.operated_on.ensures

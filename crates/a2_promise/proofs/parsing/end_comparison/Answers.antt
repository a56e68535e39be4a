use Rattle.a2_promise.proofs.Joinings.{puts_both}
use Rattle.a2_promise.proofs.parsing.end_comparison.Goals as goal

pub returns : goal.returns
returns c = record {
  kind = c.compared.ensures.kind;
  last_is = rw c.count-ended.ensures at c.compared.ensures.last;
  puts = puts_both (rw c.comparing.ensures at c.in_ok-puts.ensures) (rw c.chaining.ensures at c.in_ok-puts-2.ensures);
}

use Rattle.a2_promise_certify.proofs.Everywhere as theorem
use Rattle.a2_promise_certify.proofs.laws.promises_hold_everywhere.Goals as goal

pub returns : goal.returns
returns c = theorem.everywhere c.values_depend_only_on_reads.ensures

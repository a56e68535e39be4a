use Rattle.a2_promise_rules.proofs.Doubling as theorem
use Rattle.a2_promise_rules.proofs.doubling_is_proved.Goals as goal

pub returns-clause-told : goal.returns-clause-told
returns-clause-told c = theorem.doubling_tells

pub returns-clause-kept : goal.returns-clause-kept
returns-clause-kept c = theorem.doubling_is_proved

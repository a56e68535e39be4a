use Rattle.a2_promise.proofs.Telling as theorem
use Rattle.a2_promise.proofs.lines_give_one_promise.Goals as goal

pub returns : goal.returns
returns c = theorem.one_promise

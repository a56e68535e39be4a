use Rattle.a2_promise_certify.proofs.Returning as theorem
use Rattle.a2_promise_certify.proofs.laws.an_rts_keeps_all.Goals as goal

pub returns : goal.returns
returns c = theorem.keeps_all

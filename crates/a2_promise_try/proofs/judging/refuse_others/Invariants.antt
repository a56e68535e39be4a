use Rattle.a2_promise_try.specs.Judging.{IsSound}
use Rattle.a2_promise_try.proofs.judging.refuse_others.Given as goal

abbrev pub invariant-loop-index : goal.invariant-loop-index
invariant-loop-index g l = IsSound l.fn.judgement → IsSound l.judgement

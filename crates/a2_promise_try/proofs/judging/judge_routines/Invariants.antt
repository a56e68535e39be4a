use Rattle.a2_promise_try.specs.Judging.{IsSound}
use Rattle.a2_promise_try.proofs.judging.judge_routines.Given as goal

abbrev pub invariant-loop-one : goal.invariant-loop-one
invariant-loop-one g l = IsSound l.fn.judgement → IsSound l.judgement

use Rattle.std.proofs.Common.{◌<◌}
use Rattle.a2_promise_try.specs.Judging.{IsSound}
use Rattle.a2_promise_try.proofs.judging.judge_run.Given as goal

abbrev pub invariant-loop-case : goal.invariant-loop-case
invariant-loop-case g l = record {
  some : 0 < l.judgement.promises;
  sound : IsSound l.fn.judgement → IsSound l.judgement;
}

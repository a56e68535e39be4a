use Rattle.std.proofs.Common.{arith, rules}
use Rattle.a2_stream.proofs.Joined.{broke, broke_within}
use Rattle.a2_promise_try.specs.Refusals.{blank_for}
use Rattle.a2_promise_try.proofs.refusal_report.put_blanks.Goals as goal

pub returns-in_err-put : goal.returns-in_err-put
returns-in_err-put g c =
    broke _ _ _ _ (search rules)
    (broke_within blank_for c.args.before.now c.loop-byte.byte-index 0 _ _ _ (omega arith) c.loop-byte.invariant
    (rw c.blank_for.ensures at c.in_err-put.ensures))

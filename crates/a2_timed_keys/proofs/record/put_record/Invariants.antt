use Rattle.std.proofs.Common.{drop}
use Rattle.a2_page.proofs.Sending.{IsLeft}
use Rattle.a2_timed_keys.specs.Records.{record_text}
use Rattle.a2_timed_keys.proofs.record.put_record.Given as goal

-- the lines so far went out
abbrev pub invariant-loop-typed : goal.invariant-loop-typed
invariant-loop-typed g l =
    IsLeft (g.W.Output.taker l.fn.writer) (g.W.Output.taker l.writer) (record_text l.log l.end) (record_text (drop l.typed-index l.log) l.end)

use Rattle.std.proofs.Common.{take}
use Rattle.std.specs.List.{flat_map}
use Rattle.a2_stream.specs.Stream.{Sends}
use Rattle.a2_promise_try.specs.Refusals.{blank_for}
use Rattle.a2_promise_try.proofs.refusal_report.put_blanks.Given as goal

-- the blanks so far were written
abbrev pub invariant-loop-byte : goal.invariant-loop-byte
invariant-loop-byte g l =
    Sends (g.W.Output.taker l.fn.output) (g.W.Output.taker l.output) (flat_map blank_for (take l.byte-index l.before))

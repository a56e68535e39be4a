use Rattle.std.proofs.Common.{drop}
use Rattle.a2_page.proofs.Sending.{IsLeft}
use Rattle.a2_profile.specs.Json.{escapes}
use Rattle.a2_profile.proofs.json.put_escapes.Given as goal

-- the bytes so far were written
abbrev pub invariant-loop-byte : goal.invariant-loop-byte
invariant-loop-byte g l =
    IsLeft (g.W.Output.taker l.fn.writer) (g.W.Output.taker l.writer) (escapes l.text) (escapes (drop l.byte-index l.text))

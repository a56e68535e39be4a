use Rattle.std.proofs.Common.{map}
use Rattle.a2_syntax.specs.Sources.{AreLines}
use Rattle.a2_promise.specs.Finding.{AreRead}
use Rattle.a2_promise.proofs.finding.promises_of.Given as goal

abbrev pub invariant-loop-index : goal.invariant-loop-index
invariant-loop-index l =
    AreLines (map (λ line. line.now) l.lines) l.source → AreRead (map (λ line. line.now) l.lines) l.program.names l.index l.block l.finding

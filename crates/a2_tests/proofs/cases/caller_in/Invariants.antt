use Rattle.std.proofs.Common.{◌≡◌, drop, None}
use Rattle.a2_tests.specs.Cases.{caller_from}
use Rattle.a2_tests.proofs.cases.caller_in.Given as goal

abbrev pub invariant-loop-asked : goal.invariant-loop-asked
invariant-loop-asked l = caller_from l.caller (drop l.asked-index l.lines) ≡ caller_from None l.lines

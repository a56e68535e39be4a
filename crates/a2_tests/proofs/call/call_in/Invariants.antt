use Rattle.std.proofs.Common.{◌≡◌, drop, None}
use Rattle.a2_tests.specs.Calls.{call_from}
use Rattle.a2_tests.proofs.call.call_in.Given as goal

abbrev pub invariant-loop-asked : goal.invariant-loop-asked
invariant-loop-asked l = call_from l.found (drop l.asked-index l.lines) ≡ call_from None l.lines

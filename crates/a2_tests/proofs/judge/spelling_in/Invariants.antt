use Rattle.std.proofs.Common.{◌≡◌, drop, []}
use denote.Shadow.{shadow}
use denote.Text.{Utf8}
use Rattle.a2_tests.specs.Judging.{keys_from}
use Rattle.a2_tests.proofs.judge.spelling_in.Given as goal

abbrev pub invariant-loop-asked : goal.invariant-loop-asked
invariant-loop-asked l = (keys_from l.keys (drop l.asked-index l.lines) ≡ keys_from [] l.lines) × shadow (Utf8 l.keys)

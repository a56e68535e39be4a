use Rattle.std.proofs.Common.{◌≡◌, ◌++◌, length, false}
use Rattle.a2_tests.specs.Settings.{tight_from}
use Rattle.a2_tests.proofs.settings.tight.Given as goal

abbrev pub invariant-loop-rest : goal.invariant-loop-rest
invariant-loop-rest g l = l.joined.items ++ tight_from l.is_after l.rest ≡ tight_from false l.text

abbrev pub decreases-loop-rest : goal.decreases-loop-rest
decreases-loop-rest g l = length l.rest

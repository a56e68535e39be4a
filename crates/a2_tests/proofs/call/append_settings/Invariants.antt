use Rattle.std.proofs.Common.{◌≡◌, ◌++◌, length}
use Rattle.a2_text.specs.Words.{words}
use Rattle.a2_tests.specs.Calls.{all_lines}
use Rattle.a2_tests.specs.Settings.{tight}
use Rattle.a2_tests.proofs.call.append_settings.Given as goal

abbrev pub invariant-loop-word : goal.invariant-loop-word
invariant-loop-word g l = l.text.items ++ all_lines l.stores (words l.rest) ≡ l.fn.text.items ++ all_lines l.stores (words (tight l.settings))

abbrev pub decreases-loop-word : goal.decreases-loop-word
decreases-loop-word g l = length l.rest

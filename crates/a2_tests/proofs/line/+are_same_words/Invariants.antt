use Rattle.std.proofs.Common.{length}
use Rattle.a2_tests.proofs.line.+are_same_words.Given as goal

abbrev pub decreases-are_same_words : goal.decreases-are_same_words
decreases-are_same_words l = length l.text.now

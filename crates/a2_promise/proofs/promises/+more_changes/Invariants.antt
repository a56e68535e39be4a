use Rattle.std.proofs.Common.{length}
use Rattle.a2_promise.specs.Tokens.{tokens}
use Rattle.a2_promise.proofs.promises.+more_changes.Given as goal

abbrev pub decreases-more_changes : goal.decreases-more_changes
decreases-more_changes l = length (tokens l.reader.now.rest.now)

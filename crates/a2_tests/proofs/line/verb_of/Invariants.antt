use Rattle.std.proofs.Common.{◌≢◌, ℕ, ◌<◌}
use Rattle.std.specs.Prelude.{slice_index_or}
use Rattle.a2_tests.specs.Lines.{verb_letters}
use Rattle.a2_tests.specs.declared.line.Verb.TheVariants.{Case}
use Rattle.a2_tests.specs.declared.line.TheConstants.{VERBS}
use Rattle.a2_tests.proofs.line.verb_of.Given as goal

abbrev pub invariant-loop-verb : goal.invariant-loop-verb
invariant-loop-verb l = (k : ℕ) → k < l.verb-index → verb_letters (slice_index_or VERBS k Case) ≢ l.word

use Rattle.std.specs.Prelude.{◌<ℤ◌, ℕ, pos, slice_set}
use Rattle.a2_promise.specs.ReadsOfValues.{Knows}
use Rattle.a2_promise.specs.Values.{moment_of}
use Rattle.a2_promise_certify.specs.Looking.{known_of}
use Rattle.a2_promise_certify.proofs.clause_knowledge.+looks.Given as goal

abbrev pub invariant-is_each_known-loop-number : goal.invariant-is_each_known-loop-number
invariant-is_each_known-loop-number l =
    (k : ℕ) → pos k <ℤ l.number → Knows l.body (known_of l.entry) (known_of l.exit) (moment_of l.entry.sight) (moment_of l.exit.sight) (slice_set l.names l.name (pos k))

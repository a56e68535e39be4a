use Rattle.std.specs.Prelude.{drop}
use Rattle.a2_promise.specs.Values.{moment_of}
use Rattle.a2_promise_certify.specs.Kept.{AreClausesKnown}
use Rattle.a2_promise_certify.specs.Looking.{known_of}
use Rattle.a2_promise_certify.proofs.clause_knowledge.are_clauses_known.Given as goal

abbrev pub invariant-loop-clause : goal.invariant-loop-clause
invariant-loop-clause l =
    AreClausesKnown (drop l.clause-index l.clauses) (known_of l.entry) (known_of l.exit) (moment_of l.entry.sight) (moment_of l.exit.sight)
    → AreClausesKnown l.clauses (known_of l.entry) (known_of l.exit) (moment_of l.entry.sight) (moment_of l.exit.sight)

use Rattle.std.proofs.Common.{◌≡◌, ◌+◌, ◌*◌, ◌≤◌, drop}
use Rattle.a2_tests.specs.Requirements.{size_of}
use Rattle.a2_tests.proofs.requirements.size_of.Given as goal

abbrev pub invariant-loop-statement : goal.invariant-loop-statement
invariant-loop-statement l = record {
  low : l.size ≤ 65536 * l.statement-index;
  left : l.size + size_of (drop l.statement-index l.statements) ≡ size_of l.statements;
}

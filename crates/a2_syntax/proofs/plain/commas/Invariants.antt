use Rattle.std.proofs.Common.{◌≤◌}
use Rattle.a2_syntax.proofs.plain.commas.Given as goal

abbrev pub invariant-loop-c : goal.invariant-loop-c
invariant-loop-c l = l.count ≤ l.c-index

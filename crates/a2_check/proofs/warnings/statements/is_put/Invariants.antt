use Rattle.std.proofs.Common.{◌≡◌, drop}
use Rattle.a2_check.specs.Warnings.{is_put}
use Rattle.a2_check.proofs.warnings.statements.is_put.Given as goal

abbrev pub invariant-loop-statement : goal.invariant-loop-statement
invariant-loop-statement l = is_put (drop l.statement-index l.following) ≡ is_put l.following

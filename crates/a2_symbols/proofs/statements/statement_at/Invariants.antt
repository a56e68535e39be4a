use Rattle.std.proofs.Common.{◌≡◌, drop}
use Rattle.a2_symbols.specs.Statements.{statement_at}
use Rattle.a2_symbols.proofs.statements.statement_at.Given as goal

-- None of the statements so far is the one searched for.
abbrev pub invariant-loop-statement : goal.invariant-loop-statement
invariant-loop-statement l = statement_at (drop l.statement-index l.statements) l.address ≡ statement_at l.statements l.address

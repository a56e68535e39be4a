use Rattle.std.proofs.Common.{◌≡◌, drop}
use Rattle.a2_symbols.specs.Statements.{instruction_on}
use Rattle.a2_symbols.proofs.statements.instruction_on.Given as goal

-- None of the statements so far is the one searched for.
abbrev pub invariant-loop-statement : goal.invariant-loop-statement
invariant-loop-statement l = instruction_on (drop l.statement-index l.statements) l.number ≡ instruction_on l.statements l.number

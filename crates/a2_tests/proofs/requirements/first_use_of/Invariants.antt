use Rattle.std.proofs.Common.{◌≡◌, drop}
use Rattle.a2_tests.specs.Requirements.{first_use_of}
use Rattle.a2_tests.proofs.requirements.first_use_of.Given as goal

-- the statement searched for is not among the statements so far
abbrev pub invariant-loop-statement : goal.invariant-loop-statement
invariant-loop-statement l = first_use_of (drop l.statement-index l.statements) l.mnemonic ≡ first_use_of l.statements l.mnemonic

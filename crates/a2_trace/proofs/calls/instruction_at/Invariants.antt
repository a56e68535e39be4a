use Rattle.std.proofs.Common.{◌≡◌, find, drop}
use Rattle.a2_asm.specs.Programs.{begins_at}
use Rattle.a2_trace.proofs.calls.instruction_at.Given as goal

-- none of the statements so far begins at the address
abbrev pub invariant-loop-statement : goal.invariant-loop-statement
invariant-loop-statement l = find (begins_at l.address) (drop l.statement-index l.statements) ≡ find (begins_at l.address) l.statements

use Rattle.std.proofs.Common.{◌≡◌, drop}
use Rattle.a2_profile.specs.Callgrind.{line_at}
use Rattle.a2_profile.proofs.callgrind.line_at.Given as goal

-- none of the statements so far begins there
abbrev pub invariant-loop-statement : goal.invariant-loop-statement
invariant-loop-statement l = line_at (drop l.statement-index l.statements) l.address ≡ line_at l.statements l.address

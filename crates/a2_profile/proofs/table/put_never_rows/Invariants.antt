use Rattle.std.proofs.Common.{map, drop}
use Rattle.a2_page.proofs.Sending.{IsLeft}
use Rattle.a2_profile.specs.Table.{never_rows}
use Rattle.a2_profile.proofs.table.put_never_rows.Given as goal

-- the rows of the statements so far were written
abbrev pub invariant-loop-statement : goal.invariant-loop-statement
invariant-loop-statement g l =
    IsLeft (g.W.Output.taker l.fn.writer) (g.W.Output.taker l.writer)
    (never_rows l.profile (map (λ x. x.now) l.texts) l.statements) (never_rows l.profile (map (λ x. x.now) l.texts) (drop l.statement-index l.statements))

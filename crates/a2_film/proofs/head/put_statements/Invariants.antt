use Rattle.std.proofs.Common.{drop}
use Rattle.std.specs.List.{flat_map}
use Rattle.a2_page.proofs.Sending.{IsLeft}
use Rattle.a2_hex.specs.Images.{held}
use Rattle.a2_film.specs.Rows.{statement_line}
use Rattle.a2_film.proofs.head.put_statements.Given as goal

-- the lines so far were written
abbrev pub invariant-loop-statement : goal.invariant-loop-statement
invariant-loop-statement g l =
    IsLeft (g.W.Output.taker l.fn.writer) (g.W.Output.taker l.writer)
    (flat_map (statement_line (held l.image)) l.statements)
    (flat_map (statement_line (held l.image)) (drop l.statement-index l.statements))

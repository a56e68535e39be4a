use Rattle.a2_page.proofs.Sending.{left_more, left_broke_off}
use Rattle.a2_hex.specs.Images.{held}
use Rattle.a2_film.specs.Rows.{statement_line}
use Rattle.a2_film.proofs.Parts.{pieces-next}
use Rattle.a2_film.proofs.head.put_statements.Goals as goal

pub returns-in_err-put_statement : goal.returns-in_err-put_statement
returns-in_err-put_statement g c =
    left_broke_off _ _ _ c.from_residual.result _ _ _ _ c.from_residual.ensures.0
    (pieces-next (statement_line (held c.args.image.now)) c.args.statements.now c.loop-statement.statement-index _
    c.loop-statement-test.true)
    c.loop-statement.invariant (rw c.laid.ensures at c.in_err-put_statement.ensures)

pub loop-statement-preserved : goal.loop-statement-preserved
loop-statement-preserved g c =
    left_more _ _ _ _ _ _ _
    (pieces-next (statement_line (held c.args.image.now)) c.args.statements.now c.loop-statement.statement-index _
    c.loop-statement-test.true)
    c.loop-statement.invariant (rw c.laid.ensures at c.in_ok-put_statement.ensures)

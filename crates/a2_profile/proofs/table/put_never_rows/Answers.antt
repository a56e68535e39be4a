use Rattle.std.proofs.Common.{map}
use Rattle.a2_page.proofs.Sending.{left_more, left_broke_off}
use Rattle.a2_profile.proofs.RowLaws.{never-next}
use Rattle.a2_profile.proofs.table.put_never_rows.Goals as goal

pub returns-in_err-put_never : goal.returns-in_err-put_never
returns-in_err-put_never g c =
    left_broke_off _ _ _ c.from_residual.result _ _ _ _ c.from_residual.ensures.0
    (never-next c.args.profile.now (map (λ x. x.now) c.args.texts.now) c.args.statements.now c.loop-statement.statement-index _ c.loop-statement-test.true)
    c.loop-statement.invariant c.in_err-put_never.ensures

pub loop-statement-preserved : goal.loop-statement-preserved
loop-statement-preserved g c =
    left_more _ _ _ _ _ _ _
    (never-next c.args.profile.now (map (λ x. x.now) c.args.texts.now) c.args.statements.now c.loop-statement.statement-index _ c.loop-statement-test.true)
    c.loop-statement.invariant c.in_ok-put_never.ensures

use Rattle.a2_page.proofs.Sending.{left_all, left_more, left_broke_off}
use Rattle.a2_timed_keys.proofs.Written.{text-next, text-last, left_last}
use Rattle.a2_timed_keys.proofs.record.put_record.Goals as goal

pub loop-typed-init : goal.loop-typed-init
loop-typed-init g c = left_all _ _

pub returns-in_err-put_key : goal.returns-in_err-put_key
returns-in_err-put_key g c =
    left_broke_off _ _ _ c.from_residual.result _ _ _ _ c.from_residual.ensures.0
    (text-next c.args.log.now c.args.end c.loop-typed.typed-index _ c.loop-typed-test.true)
    c.loop-typed.invariant c.in_err-put_key.ensures

pub loop-typed-preserved : goal.loop-typed-preserved
loop-typed-preserved g c =
    left_more _ _ _ _ _ _ _
    (text-next c.args.log.now c.args.end c.loop-typed.typed-index _ c.loop-typed-test.true)
    c.loop-typed.invariant c.in_ok-put_key.ensures

pub returns : goal.returns
returns g c =
    left_last _ _ _ c.put_end.result _ _ _ (text-last c.args.log.now c.args.end c.loop-typed.typed-index c.loop-typed-test.false)
    c.loop-typed.invariant c.put_end.ensures

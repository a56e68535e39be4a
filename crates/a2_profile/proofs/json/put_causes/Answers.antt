use Rattle.std.proofs.Common.{map, []}
use Rattle.a2_stream.proofs.Joined.{Sends-nil}
use Rattle.a2_page.proofs.Sending.{left_more, left_broke_off}
use Rattle.a2_profile.specs.Json.{cause_string}
use Rattle.a2_profile.proofs.ItemLaws.{left_items, following-next, causes-next}
use Rattle.a2_profile.proofs.json.put_causes.Goals as goal

pub loop-cause-init : goal.loop-cause-init
loop-cause-init g c = left_items _ _ [] _ (map cause_string c.args.causes.now) c.as_slice-front.ensures (Sends-nil _)

pub returns-in_err-put_cause : goal.returns-in_err-put_cause
returns-in_err-put_cause g c =
    left_broke_off _ _ _ c.from_residual.result _ _ _ _ c.from_residual.ensures.0
    (following-next c.loop-cause.front.now _ _ _ (causes-next c.args.causes.now c.loop-cause.cause-index _ c.loop-cause-test.true)) c.loop-cause.invariant c.in_err-put_cause.ensures

pub loop-cause-preserved : goal.loop-cause-preserved
loop-cause-preserved g c =
    left_more _ _ _ _ _ _ _
    (following-next c.loop-cause.front.now _ _ _ (causes-next c.args.causes.now c.loop-cause.cause-index _ c.loop-cause-test.true)) c.loop-cause.invariant c.in_ok-put_cause.ensures

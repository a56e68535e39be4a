use Rattle.std.specs.Prelude.{◌≡◌}
use Rattle.std.proofs.Common.{sym, ap, ◌∙◌, subst}
use Rattle.a2_bus.specs.Memory.{Memory}
use Rattle.a2_bus.specs.View.{memory_of}
use Rattle.a2_services.specs.Put.{after_put, after_put_unmasked, inverse_mask}
use Rattle.a2_footprint.specs.Services.{changed_by, masked, put_changes}
use Rattle.a2_promise_certify.specs.Screen.{IsCursor}
use Rattle.a2_promise_certify.specs.Walking.{AreMarked}
use Rattle.a2_promise_certify.proofs.Cursors.{mask_kept, put_masked, under_mask}
use Rattle.a2_promise_certify.proofs.Marking.{both_marked}
use Rattle.a2_promise_certify.proofs.service_stores.mark_both.Goals as goal

pub returns-then-mark_output : goal.returns-then-mark_output
returns-then-mark_output c = λ is.
    let m : Memory = memory_of c.args.space.now in
    let n : Memory = after_put c.args.first m in
    let mask : inverse_mask m ≡ c.load-mask.result = sym c.load-mask.ensures.byte in
    let next : c.masked-next.result ≡ masked c.args.second n =
    c.masked-next.ensures ∙ under_mask c.args.second c.load-mask.result n (mask_kept c.args.first m ∙ mask) in
    let put : after_put_unmasked c.masked.result m ≡ n =
    ap (λ b. after_put_unmasked b m) (c.masked.ensures ∙ under_mask c.args.first c.load-mask.result m mask) ∙ sym (put_masked c.args.first m) in
    let following : IsCursor c.following-after_first_one.result n =
    subst (IsCursor c.following-after_first_one.result) put (c.following-after_first_one.ensures.cursor m c.in-Some.ensures.0) in
    both_marked c.args.stored.now c.mark_output.new.stored c.mark_put.new.stored c.args.changes.now
    (put_changes c.args.first m) (put_changes c.args.second n) (c.mark_output.ensures c.if-mark_output.true)
    (subst (λ b. AreMarked c.mark_output.new.stored c.mark_put.new.stored c.args.changes.now (changed_by b n)) next
    (c.mark_put.ensures is n following))

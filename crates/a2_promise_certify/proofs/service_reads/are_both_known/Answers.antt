use Rattle.std.specs.Prelude.{◌≡◌, ℕ, Bool}
use Rattle.std.proofs.Common.{sym, ap, ◌∙◌, subst}
use Rattle.a2_bus.specs.Memory.{Memory}
use Rattle.a2_bus.specs.View.{memory_of}
use Rattle.a2_services.specs.Put.{after_put, after_put_unmasked, inverse_mask}
use Rattle.a2_footprint.specs.Reads.{Knows}
use Rattle.a2_footprint.specs.Services.{masked, moved_by, put_moves}
use Rattle.a2_promise_certify.specs.Screen.{IsCursor}
use Rattle.a2_promise_certify.specs.Walking.{known_now}
use Rattle.a2_promise_certify.proofs.Cursors.{mask_kept, put_masked, under_mask}
use Rattle.a2_promise_certify.proofs.Walking.{knows_both}
use Rattle.a2_promise_certify.proofs.service_reads.are_both_known.Goals as goal

pub returns : goal.returns
returns c = λ is.
    let known : ℕ → Bool = known_now c.args.known.now c.args.stored.now in
    let m : Memory = memory_of c.args.space.now in
    let n : Memory = after_put c.args.first m in
    let mask : inverse_mask m ≡ c.load-mask.result = sym c.load-mask.ensures.byte in
    let first : c.masked-put.result ≡ masked c.args.first m =
    c.masked-put.ensures ∙ under_mask c.args.first c.load-mask.result m mask in
    let second : c.masked-next.result ≡ masked c.args.second n =
    c.masked-next.ensures ∙ under_mask c.args.second c.load-mask.result n (mask_kept c.args.first m ∙ mask) in
    let put : after_put_unmasked c.masked-put.result m ≡ n =
    ap (λ b. after_put_unmasked b m) first ∙ sym (put_masked c.args.first m) in
    let following : IsCursor c.following.result n =
    subst (IsCursor c.following.result) put (c.following.ensures.cursor m c.cursor_in-cursor.ensures) in (
      sym c.is_known_now.ensures ∙ c.if-not-is_known_now.false,
      knows_both known (put_moves c.args.first m) (put_moves c.args.second n)
          (subst (λ b. Knows known (moved_by b m)) first
          (c.are_moved_known.ensures c.if-not-are_moved_known.false m c.cursor_in-cursor.ensures))
          (subst (λ b. Knows known (moved_by b n)) second (c.are_moved_known-2.ensures is n following)),
    )

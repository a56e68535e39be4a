use Rattle.std.proofs.Common.{refl}
use Rattle.a2_promise.proofs.Countings.{of_none}
use Rattle.a2_promise.proofs.TakenChanges.{change_read}
use Rattle.a2_promise.proofs.promises.take_change.Goals as goal

pub returns : goal.returns
returns c =
    let token = c.next.result in
    change_read c.in_ok-first.first c.in_ok-last.last token.class token.text.now _ c.next.ensures.first
    (of_none c.held_by.result c.in_default.not-Some c.held_by.ensures.none) c.in_ok-first.ensures c.in_ok-last.ensures c.if-last-first.false
    c.in_ok-push_range.ensures.registers c.in_ok-push_range.ensures.ranges refl refl

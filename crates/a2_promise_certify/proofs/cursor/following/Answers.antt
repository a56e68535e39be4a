use Rattle.std.specs.Prelude.{◌≡◌, ◌≢◌}
use Rattle.std.proofs.Common.{sym, ap, ◌∙◌, subst, arith}
use Rattle.a2_services.specs.Bytes.{carriage_return, line_feed, backspace}
use Rattle.a2_services.specs.Put.{after_put_unmasked}
use Rattle.a2_promise_certify.specs.Screen.{IsCursor}
use Rattle.a2_promise_certify.proofs.Cursors.{put_return, put_line_feed, put_backspace, put_control, put_character}
use Rattle.a2_promise_certify.proofs.cursor.following.Goals as goal

pub returns-in-141-clause-cursor : goal.returns-in-141-clause-cursor
returns-in-141-clause-cursor c = λ memory h.
    let is : c.args.byte ≡ carriage_return = omega arith in
    subst (IsCursor c.move_to_next_line.result) (sym (ap (λ b. after_put_unmasked b memory) is ∙ put_return memory))
    (c.move_to_next_line.ensures.cursor memory c.args.cursor.column h)

pub returns-in-138-clause-cursor : goal.returns-in-138-clause-cursor
returns-in-138-clause-cursor c = λ memory h.
    let is : c.args.byte ≡ line_feed = omega arith in
    subst (IsCursor c.down.result) (sym (ap (λ b. after_put_unmasked b memory) is ∙ put_line_feed memory)) (c.down.ensures.cursor memory h)

pub returns-in-136-clause-cursor : goal.returns-in-136-clause-cursor
returns-in-136-clause-cursor c = λ memory h.
    let is : c.args.byte ≡ backspace = omega arith in
    subst (IsCursor c.back.result) (sym (ap (λ b. after_put_unmasked b memory) is ∙ put_backspace memory)) (c.back.ensures.cursor memory h)

pub returns-in_default-clause-cursor : goal.returns-in_default-clause-cursor
returns-in_default-clause-cursor c = λ memory h.
    let no_return : c.args.byte ≢ carriage_return = omega arith in
    let no_feed : c.args.byte ≢ line_feed = omega arith in
    let no_back : c.args.byte ≢ backspace = omega arith in
    subst (IsCursor c.args.cursor)
    (sym (put_control c.args.byte memory no_return no_feed no_back (sym c.is_control.ensures ∙ c.if-is_control.true))) h

pub returns-in_default-2-clause-cursor : goal.returns-in_default-2-clause-cursor
returns-in_default-2-clause-cursor c = λ memory h.
    let no_return : c.args.byte ≢ carriage_return = omega arith in
    let no_feed : c.args.byte ≢ line_feed = omega arith in
    let no_back : c.args.byte ≢ backspace = omega arith in
    subst (IsCursor c.on.result)
    (sym (put_character c.args.byte memory no_return no_feed no_back (sym c.is_control.ensures ∙ c.if-is_control.false))) (c.on.ensures.cursor memory h)

use Rattle.std.proofs.Common.{sym, ◌∙◌}
use Rattle.a2_promise_certify.proofs.Standing.{standing}
use Rattle.a2_promise_certify.proofs.walk.instr_at.Goals as goal

pub returns : goal.returns
returns c =
    standing c.args.pc c.args.space.now.bytes c.peek.ensures.size c.in_ok-first.first c.in_ok-second.second c.in_ok-third.third
    (sym c.peek.ensures.value ∙ c.in_ok-first.was) (sym c.peek-2.ensures.value ∙ c.in_ok-second.was) (sym c.peek-3.ensures.value ∙ c.in_ok-third.was)
    c.decode.result c.decode.ensures.whole c.decode.ensures.fetched

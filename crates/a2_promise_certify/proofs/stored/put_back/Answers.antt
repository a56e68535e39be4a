use Rattle.std.proofs.Common.{sym, ◌∙◌}
use Rattle.a2_promise_certify.proofs.But.{none_there, put_there}
use Rattle.a2_promise_certify.proofs.stored.put_back.Goals as goal

pub returns-in-Some : goal.returns-in-Some
returns-in-Some c = λ there but.
    put_there there c.args.space.now c.args.other.now c.args.address but c.in-Some.byte (sym c.peek.ensures.value ∙ c.in-Some.is)
    c.write.new.self c.write.ensures.left

pub returns-in_default : goal.returns-in_default
returns-in_default c = λ there but.
    none_there there c.args.space.now c.args.other.now c.args.address but (sym c.peek.ensures.value ∙ c.in_default.is)

use Rattle.std.specs.Prelude.{◌||◌}
use Rattle.std.proofs.Common.{subst}
use Rattle.a2_promise_certify.specs.But.{IsEqualExcept}
use Rattle.a2_promise_certify.specs.States.{is_byte}
use Rattle.a2_promise_certify.proofs.entry_states.put_back_input.Goals as goal

pub returns-in-Byte : goal.returns-in-Byte
returns-in-Byte c = λ there but.
    c.put_back.ensures there
    (subst (λ input. IsEqualExcept (λ a. is_byte a input || there a) c.args.space.now c.args.other.now) c.in-Byte.is but)

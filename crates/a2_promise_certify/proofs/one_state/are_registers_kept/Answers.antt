use Rattle.a2_effect.specs.View.{registers_of}
use Rattle.a2_promise_certify.proofs.Certifying.{registers_kept}
use Rattle.a2_promise_certify.proofs.one_state.are_registers_kept.Goals as goal

pub returns : goal.returns
returns c = λ is.
    registers_kept c.args.changes.now c.args.parts.now c.args.parts_known_after.now (registers_of c.args.before.now) (registers_of c.args.following.now)
    (c.is_register_kept.ensures c.if-not-is_register_kept.false) (c.is_register_kept-else-not-is_register_kept.ensures c.if-not-is_register_kept-2.false)
    (c.is_register_kept-2.ensures is)

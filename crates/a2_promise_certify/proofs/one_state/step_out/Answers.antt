use Rattle.std.specs.Prelude.{◌≡◌, ℕ}
use Rattle.std.proofs.Common.{sym, ◌∙◌, subst}
use Rattle.a2_effect.specs.View.{registers_of}
use Rattle.a2_services.specs.World.{world_of}
use Rattle.a2_machine.specs.Meaning.{next}
use Rattle.a2_promise_certify.specs.Kept.{code}
use Rattle.a2_promise_certify.proofs.Certifying.{stepped}
use Rattle.a2_promise_certify.proofs.one_state.step_out.Goals as goal

pub returns-clause-made : goal.returns-clause-made
returns-clause-made c =
    let walk = c.args.walk.now in
    let At : ℕ → Type 0 = λ cycles.
    world_of (registers_of c.guarded_step.new.regs) c.guarded_step.new.bus cycles
    ≡ next code (world_of (registers_of walk.regs) walk.space walk.cycles) in
    subst At (sym c.in_ok-walk.ensures.1)
    (stepped (registers_of walk.regs) walk.space c.peek.ensures.size c.in_ok-_opcode._opcode (sym c.peek.ensures.value ∙ c.in_ok-_opcode.was)
    (registers_of c.guarded_step.new.regs) c.guarded_step.new.bus c.in-Next.cycles walk.cycles
    (sym c.in-Next.is ∙ c.guarded_step.ensures.answer) c.guarded_step.ensures.registers c.guarded_step.ensures.memory)

use Rattle.std.specs.Prelude.{◌≡◌, map, refl}
use Rattle.std.proofs.Common.{ap, sym, subst, ◌∙◌}
use Rattle.a2_effect.specs.View.{registers_of}
use Rattle.a2_services.specs.World.{world_of}
use Rattle.a2_footprint.specs.Counting.{state_at}
use Rattle.a2_promise_certify.specs.But.{IsEqualExcept}
use Rattle.a2_promise_certify.specs.Certifying.{start_of}
use Rattle.a2_promise_certify.specs.States.{has_byte, values_of, with_values}
use Rattle.a2_promise_certify.proofs.But.{joined, turned}
use Rattle.a2_promise_certify.proofs.Trying.{entry_s}
use Rattle.a2_promise_certify.proofs.one_state.enter.Goals as goal

pub returns-then-not-put_state-clause-rest : goal.returns-then-not-put_state-clause-rest
returns-then-not-put_state-clause-rest c =
    subst (λ base. IsEqualExcept (has_byte c.args.setup.now.inputs.now) c.put_state.new.space base) c.requires.before_is c.put_state.ensures.rest

pub returns-clause-rest : goal.returns-clause-rest
returns-clause-rest c =
    subst (λ base. IsEqualExcept (has_byte c.args.setup.now.inputs.now) c.put_state.new.space base) c.requires.before_is c.put_state.ensures.rest

pub returns-clause-entered : goal.returns-clause-entered
returns-clause-entered c = λ _.
    let setup = c.args.setup.now in
    let inputs = setup.inputs.now in
    let before = c.put_state.new.space in
    let put : world_of (registers_of c.put_state.new.regs) before 0 ≡ start_of setup c.args.number =
    c.put_state.ensures.world c.if-not-put_state.false
    ∙ ap (λ w. with_values inputs (state_at (map values_of inputs) c.args.number) w)
    (λ i. world_of (c.start-regs.ensures.registers i) (c.requires.before_is i) 0) in
    let rest : IsEqualExcept (has_byte inputs) before setup.base.now =
    subst (λ base. IsEqualExcept (has_byte inputs) before base) c.requires.before_is c.put_state.ensures.rest in
    let alike = c.put_back_inputs.ensures
    (joined (has_byte inputs) c.args.walk.now.space setup.base.now before c.requires.space_is (turned (has_byte inputs) before setup.base.now rest)) in
    record {
      world = ap (λ b. world_of (registers_of c.put_state.new.regs) b 0) alike ∙ put;
      space = sym alike;
      s = entry_s setup c.args.number (registers_of c.put_state.new.regs) c.put_back_inputs.new.space
          (ap (λ b. world_of (registers_of c.put_state.new.regs) b 0) alike ∙ put);
      cycles = refl;
      first_parts = refl;
      clear = c.requires.clear;
    }

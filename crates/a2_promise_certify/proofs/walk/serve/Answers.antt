use Rattle.std.specs.Prelude.{refl}
use Rattle.std.specs.List.{list_all}
use Rattle.std.proofs.Common.{sym, ap, ◌∙◌, subst₂}
use Rattle.a2_effect.specs.View.{registers_of}
use Rattle.a2_services.specs.Called.{IsCallExecuted}
use Rattle.a2_footprint.specs.Parts.{with_parts}
use Rattle.a2_promise_certify.specs.Walking.{knows_part}
use Rattle.a2_promise_certify.proofs.Called.{is_step}
use Rattle.a2_promise_certify.proofs.walk.serve.Goals as goal

pub returns : goal.returns
returns c =
    let walk = c.args.walk.now in
    let made : IsCallExecuted c.in_ok-service.service (registers_of walk.regs) walk.space (registers_of c.regs-walk.result) c.call.new.space c.in-Next.cycles =
    subst₂ (λ r q. IsCallExecuted c.in_ok-service.service r walk.space q c.call.new.space c.in-Next.cycles)
    c.of-live.ensures.registers (sym c.regs-walk.ensures.registers) c.in-Next.ensures.called in record {
      step = is_step c.in_ok-service.service (registers_of walk.regs) walk.space (sym c.service_at.ensures ∙ c.in_ok-service.was)
          (sym c.is_keyless.ensures ∙ c.if-not-is_keyless.false)
          c.args.known.now c.args.stored.now c.mark_places.new.stored walk.parts c.learn.new.self c.args.changes.now
          (registers_of c.regs-walk.result) c.call.new.space c.in-Next.cycles
          (sym (c.have.ensures ∙ ap (λ xs. list_all (knows_part walk.parts) xs) c.registers_read_by.ensures) ∙ c.if-not-have.false)
          (c.is_all_known.ensures c.if-not-is_all_known.false) (c.mark_places.ensures c.if-not-mark_places.false) made
          (λ part. c.learn.ensures part ∙ ap (λ xs. with_parts xs (knows_part walk.parts) part) c.registers_set_by.ensures);
      uncounted = refl;
    }

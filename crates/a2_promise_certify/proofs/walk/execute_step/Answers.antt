use Rattle.std.specs.Prelude.{refl}
use Rattle.std.proofs.Common.{sym, ap, ◌∙◌}
use Rattle.a2_effect.specs.View.{registers_of}
use Rattle.a2_footprint.specs.Parts.{with_parts}
use Rattle.a2_promise_certify.specs.Walking.{knows_part}
use Rattle.a2_promise_certify.proofs.Walking.{is_step}
use Rattle.a2_promise_certify.proofs.walk.execute_step.Goals as goal

pub returns : goal.returns
returns c =
    let walk = c.args.walk.now in record {
      step = is_step c.args.instr (registers_of walk.regs) walk.space c.requires.size c.requires
          c.args.known.now c.args.stored.now c.mark_each.new.stored walk.parts c.learn.new.self c.args.changes.now
          (registers_of c.guarded_step.new.regs) c.guarded_step.new.bus c.in-Next.cycles
          (c.is_fetch_known.ensures c.if-not-is_fetch_known.false) (c.are_reads_known.ensures c.if-not-are_reads_known.false)
          (sym c.are_parts_known.ensures ∙ c.if-not-are_parts_known.false)
          (c.is_code_off_stack.ensures c.if-not-is_code_off_stack.false) (c.is_off_stack.ensures c.if-not-is_off_stack.false)
          c.as_slice.result.now (c.as_slice.ensures.value ∙ c.writes-targets.ensures) (c.mark_each.ensures c.if-not-mark_each.false)
          (sym c.in-Next.is ∙ c.guarded_step.ensures.answer) c.guarded_step.ensures.registers c.guarded_step.ensures.memory
          (λ part. c.learn.ensures part ∙ ap (λ xs. with_parts xs (knows_part walk.parts) part) c.sets.ensures);
      uncounted = refl;
    }

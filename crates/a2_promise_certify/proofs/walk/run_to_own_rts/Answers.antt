use Rattle.std.specs.Prelude.{◌≡◌, ℕ, suc, ◌+◌}
use Rattle.std.proofs.Common.{ap, sym, subst, ◌∙◌, arith}
use Rattle.a2_effect.specs.View.{registers_of}
use Rattle.a2_promise_certify.specs.Walking.{IsWalk}
use Rattle.a2_promise_certify.proofs.Home.{home, none, one_more}
use Rattle.a2_promise_certify.proofs.walk.run_to_own_rts.Goals as goal

pub loop-steps-init : goal.loop-steps-init
loop-steps-init c =
    let w = c.args.walk.now in
    let At : ℕ → Type 0 = λ cycles.
    IsWalk c.args.known.now c.args.stored.now w.parts w.parts c.args.changes.now (registers_of w.regs) w.space (registers_of w.regs) w.space cycles 0 in
    subst At (sym c.requires.cycles)
    (none c.args.known.now c.args.stored.now w.parts c.args.changes.now (registers_of w.regs) w.space c.requires.stored)

pub loop-steps-preserved : goal.loop-steps-preserved
loop-steps-preserved c =
    let first = c.args.walk.now in
    let last = c.loop-steps.walk in
    let new = c.go_on.new.walk in
    let At : ℕ → ℕ → Type 0 = λ cycles steps.
    IsWalk c.args.known.now c.go_on.new.stored first.parts new.parts c.args.changes.now (registers_of first.regs) first.space
    (registers_of new.regs) new.space cycles steps in
    let next : suc c.loop-steps.steps ≡ c.loop-steps.steps + 1 = omega arith in
    let step = c.in_ok-cycles.ensures in
    let all = c.in_ok-walk.ensures.1 ∙ ap (λ cycles. cycles + c.in_ok-cycles.cycles) step.uncounted in
    subst (λ cycles. At cycles (c.loop-steps.steps + 1)) (sym all)
    (subst (At (last.cycles + c.in_ok-cycles.cycles)) next
    (one_more c.args.known.now c.loop-steps.stored c.go_on.new.stored first.parts last.parts new.parts c.args.changes.now
    (registers_of first.regs) first.space (registers_of last.regs) last.space (registers_of new.regs) new.space
    last.cycles c.in_ok-cycles.cycles c.loop-steps.steps c.loop-steps.invariant step.step))

pub returns-in-loop-steps : goal.returns-in-loop-steps
returns-in-loop-steps c =
    let first = c.args.walk.now in
    let last = c.loop-steps.walk in (
      c.loop-steps-test.true,
      home c.args.known.now c.loop-steps.stored c.loop-steps.stored first.parts last.parts last.parts c.args.changes.now
          (registers_of first.regs) first.space (registers_of last.regs) last.space (registers_of last.regs) last.space
          last.cycles 0 c.loop-steps.steps c.loop-steps.invariant
          c.in-Some.instr c.in-Some.ensures.size c.in-Some.ensures (c.is_own_rts.ensures c.if-is_own_rts.true) c.requires.s,
    )

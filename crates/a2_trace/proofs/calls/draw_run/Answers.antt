use Rattle.std.specs.Prelude.{suc}
use Rattle.std.proofs.Common.{◌≡◌, ◌∙◌, ◌≤◌, ℕ, sym, ap, subst, arith, refl}
use Rattle.a2_asm.specs.Assembled.{Assembled}
use Rattle.a2_effect.specs.declared.Regs.{Regs}
use Rattle.a2_services.specs.World.{World}
use Rattle.a2_stream.proofs.Joined.{Sends-nil, Breaks-then, broke}
use Rattle.a2_stream.specs.Stream.{Breaks}
use Rattle.a2_routines.specs.Routines.{is_call}
use Rattle.a2_timed_keys.specs.Finished.{Finished}
use Rattle.a2_timed_keys.specs.Rerun.{Rerunning, worlds_of, end_of}
use Rattle.a2_trace.specs.Calls.{call_tree}
use Rattle.a2_trace.proofs.Drawing.{IsDrawn, few, drawn-none, drawn-next, rows-next, drawn-end, drawn-broken}
use Rattle.a2_trace.proofs.calls.draw_run.Goals as goal

pub loop-program-init : goal.loop-program-init
loop-program-init g c =
    let f = c.args.ended.now in
    let here = g.W.Output.taker c.args.writer.now in
    record { run = c.requires.run; drawn = drawn-none c.program-program.result.now (worlds_of f) here c.args.rerun.now.steps c.new-visits.result.items c.new-visits.ensures c.requires.start (Sends-nil here) }

pub put_step-requires : goal.put_step-requires
put_step-requires g c =
    let f = c.args.ended.now in
    let n = c.loop-program.rerun.steps in
    let h = c.loop-program.invariant in
    let s : c.regs-before.result.s ≡ (worlds_of f n).registers.s
    = ap (λ (regs : Regs). regs.s) c.regs-before.ensures.value
    ∙ ap (λ (w : World). w.registers.s) (c.machine-in-loop-program.ensures.world ∙ ap (λ (r : Finished). worlds_of r n) h.run) in
    omega (arith, few 256 (worlds_of f n).registers.s c.loop-program.visits.items h.drawn.falls h.drawn.above (omega (arith, s, c.regs-before.type_inv)))

pub returns-then-not-step : goal.returns-then-not-step
returns-then-not-step g c =
    let f = c.args.ended.now in
    let (all, _) = c.step.ensures.over c.if-not-step.true in
    let h = c.loop-program.invariant in
    drawn-end f.program (worlds_of f) (g.W.Output.taker c.args.writer.now) (g.W.Output.taker c.loop-program.writer) (g.W.Output.taker c.put_open.new.writer)
    c.loop-program.rerun.steps c.loop-program.visits.items (end_of f) c.put_open.result
    (subst (λ (p : Assembled). IsDrawn p (worlds_of f) (g.W.Output.taker c.args.writer.now) (g.W.Output.taker c.loop-program.writer) c.loop-program.rerun.steps c.loop-program.visits.items) c.program-program.ensures h.drawn)
    (subst (λ (r : Finished). (end_of r).steps ≡ c.loop-program.rerun.steps) h.run all) c.put_open.ensures

pub loop-program-preserved : goal.loop-program-preserved
loop-program-preserved g c =
    let f = c.args.ended.now in
    let n = c.loop-program.rerun.steps in
    let h = c.loop-program.invariant in
    let (_, next) = c.step.ensures.made c.if-not-step.false in
    let steps : c.step.new.self.steps ≡ suc n = ap (λ (r : Rerunning). r.steps) next in
    let before = c.machine-in-loop-program.ensures.world ∙ ap (λ (r : Finished). worlds_of r n) h.run in
    let here = g.W.Output.taker c.args.writer.now in
    let drawn = drawn-next c.program-program.result.now (worlds_of f) here (g.W.Output.taker c.loop-program.writer) n c.loop-program.visits.items h.drawn
    c.machine-in-loop-program-2.result.now.state
    (c.machine-in-loop-program-2.ensures.world ∙ ap (λ (r : Rerunning). worlds_of r.run r.steps) next ∙ ap (λ (r : Finished). worlds_of r (suc n)) h.run)
    (c.machine-in-loop-program-2.ensures.steps ∙ steps) c.is_call-is_jsr.result c.regs-before.result.pc c.regs-before.result.s
    (c.is_call-is_jsr.ensures ∙ ap is_call (c.machine.ensures.world ∙ ap (λ (r : Finished). worlds_of r n) h.run))
    (ap (λ (regs : Regs). regs.pc) c.regs-before.ensures.value ∙ ap (λ (w : World). w.registers.pc) before)
    (ap (λ (regs : Regs). regs.s) c.regs-before.ensures.value ∙ ap (λ (w : World). w.registers.s) before)
    (g.W.Output.taker c.put_step.new.writer) c.put_step.new.visits.items _ (omega (arith, c.regs-before.type_inv)) c.in_ok-put_step.ensures.visits refl
    c.in_ok-put_step.ensures.rows in
    record {
      run = ap (λ (r : Rerunning). r.run) next ∙ h.run;
      drawn = subst (λ (k : ℕ). IsDrawn c.program-program.result.now (worlds_of f) here (g.W.Output.taker c.put_step.new.writer) k c.put_step.new.visits.items) (sym steps) drawn;
    }

pub returns-in_err-put_step : goal.returns-in_err-put_step
returns-in_err-put_step g c =
    let f = c.args.ended.now in
    let n = c.loop-program.rerun.steps in
    let h = c.loop-program.invariant in
    let (more, next) = c.step.ensures.made c.if-not-step.false in
    let steps : c.step.new.self.steps ≡ suc n = ap (λ (r : Rerunning). r.steps) next in
    let before = c.machine-in-loop-program.ensures.world ∙ ap (λ (r : Finished). worlds_of r n) h.run in
    let here = g.W.Output.taker c.args.writer.now in
    let after = g.W.Output.taker c.put_step.new.writer in
    let rows = rows-next c.program-program.result.now (worlds_of f) here (g.W.Output.taker c.loop-program.writer) n c.loop-program.visits.items h.drawn
    c.machine-in-loop-program-2.result.now.state
    (c.machine-in-loop-program-2.ensures.world ∙ ap (λ (r : Rerunning). worlds_of r.run r.steps) next ∙ ap (λ (r : Finished). worlds_of r (suc n)) h.run)
    (c.machine-in-loop-program-2.ensures.steps ∙ steps) c.is_call-is_jsr.result c.regs-before.result.pc c.regs-before.result.s
    (c.is_call-is_jsr.ensures ∙ ap is_call (c.machine.ensures.world ∙ ap (λ (r : Finished). worlds_of r n) h.run))
    (ap (λ (regs : Regs). regs.pc) c.regs-before.ensures.value ∙ ap (λ (w : World). w.registers.pc) before)
    (ap (λ (regs : Regs). regs.s) c.regs-before.ensures.value ∙ ap (λ (w : World). w.registers.s) before) _ refl in
    broke here after c.from_residual.result _ c.from_residual.ensures.0
    (subst (λ (p : Assembled). Breaks here after (call_tree p (worlds_of f) (end_of f))) c.program-program.ensures
    (drawn-broken c.program-program.result.now (worlds_of f) here after (suc n) (end_of f)
    (subst (λ (r : Finished). suc n ≤ (end_of r).steps) h.run (omega (arith, more)))
    (subst (Breaks here after) rows (Breaks-then here (g.W.Output.taker c.loop-program.writer) after _ _ h.drawn.sent c.in_err-put_step.ensures.rows))))

use Rattle.std.proofs.Common.{refl, inl, inr, ap, arith}
use Rattle.a2_debug_script.specs.Stored.{Stored}
use Rattle.a2_debug_script.proofs.Runs.{ends_here}
use Rattle.a2_debug_script.proofs.debugger.Debugger.execute_steps.Goals as goal

pub returns-in-Break : goal.returns-in-Break
returns-in-Break g c =
    let start = ap (λ (s : Stored). s.count) c.self.view_is in
    ends_here c.loop-next.invariant.way c.in-Break.ensures (omega arith) (omega (arith, start)) (inl refl) (omega (arith, start))

pub returns-in-Stopped : goal.returns-in-Stopped
returns-in-Stopped g c =
    let start = ap (λ (s : Stored). s.count) c.self.view_is in
    let here = ap (λ (s : Stored). s.count) c.self-in-loop-next.view_is in
    ends_here c.loop-next.invariant.way c.in-Stopped.ensures (omega arith) (omega (arith, start)) (inr (inl (omega (arith, here)))) (omega (arith, start))

pub returns : goal.returns
returns g c =
    let start = ap (λ (s : Stored). s.count) c.self.view_is in
    ends_here c.loop-next.invariant.way c.run_to-2.ensures (omega (arith, start)) (omega (arith, start)) (inr (inr (omega (arith, start)))) (omega (arith, start))

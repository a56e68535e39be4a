use Rattle.std.proofs.Common.{arith, sym, ◌∙◌}
use Rattle.a2_history.proofs.Leaping.{leap-way}
use Rattle.a2_history.proofs.course.Course.bring.Goals as goal

pub loop-from-preserved : goal.loop-from-preserved
loop-from-preserved g c =
    let before = c.loop-from.invariant in
    let made = leap-way c.args.self.now c.args.position c.loop-from.machine c.leap.new.machine c.leap.result before.on
    (omega (arith, before.steps, c.loop-from-test.true)) c.requires.went c.leap.ensures.on c.leap.ensures.ahead c.leap.ensures.within c.leap.ensures.stuck in
    let at = c.steps-from-in-loop-from.ensures in record {
      on = made.0;
      steps = sym at;
      within = omega (arith, at, made.2);
      guard = c.leap.ensures.guard ∙ before.guard;
    }

pub loop-from-smaller : goal.loop-from-smaller
loop-from-smaller g c =
    let before = c.loop-from.invariant in
    let made = leap-way c.args.self.now c.args.position c.loop-from.machine c.leap.new.machine c.leap.result before.on
    (omega (arith, before.steps, c.loop-from-test.true)) c.requires.went c.leap.ensures.on c.leap.ensures.ahead c.leap.ensures.within c.leap.ensures.stuck in
    omega (arith, c.steps-from-in-loop-from.ensures, made.1, made.2, before.steps)

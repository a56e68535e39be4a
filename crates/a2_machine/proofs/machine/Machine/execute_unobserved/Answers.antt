use Rattle.std.specs.Prelude.{false, refl}
use Rattle.a2_machine.proofs.Making.{making}
use Rattle.a2_machine.proofs.machine.Machine.execute_unobserved.Goals as goal

pub returns : goal.returns
returns g c =
    rw (c.count.ensures.counted, ← c.self.view_is)
    (making (λ address. false) _ _ _ c.execute_steps_unobserved-done.result _ _ c.self.invariant.3 refl
    (rw c.space_mut.ensures.value at c.execute_steps_unobserved-done.ensures.steps) c.execute_steps_unobserved-done.ensures.none c.args.limit
    (rw (← c.self.view_is) at c.most_within-most.ensures))

use Rattle.a2_machine.proofs.CodeGuarding.{plain-marks}
use Rattle.a2_machine.proofs.code_guard.CodeGuard.marks.Goals as goal

pub returns : goal.returns
returns g c =
    rw (← c.self.view_is, c.as_slice.ensures.value)
    (plain-marks c.self.inside.on c.self.inside.marks.items c.self.inside.marked c.self.invariant)

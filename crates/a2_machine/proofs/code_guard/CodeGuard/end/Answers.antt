use Rattle.a2_machine.proofs.CodeGuarding.{admitted-ends}
use Rattle.a2_machine.proofs.code_guard.CodeGuard.end.Goals as goal

pub returns : goal.returns
returns g c =
    rw (← c.self.view_is)
    (admitted-ends c.self.inside.on c.self.inside.marks.items c.self.inside.marked c.self.invariant)

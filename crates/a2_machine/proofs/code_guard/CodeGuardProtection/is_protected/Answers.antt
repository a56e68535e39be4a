use Rattle.std.proofs.Common.{ap, ◌∙◌, arith}
use Rattle.std.proofs.lemmas.List.{get_or_read}
use Rattle.a2_machine.specs.Marks.{is_set}
use Rattle.a2_machine.proofs.CodeGuarding.{protects-is}
use Rattle.a2_machine.proofs.code_guard.CodeGuardProtection.is_protected.Goals as goal

pub returns : goal.returns
returns g c = rw (← c.self.view_is)
    (ap (is_set 2) (get_or_read c.self.inside.marks.items c.args.address _ (omega (arith, c.self.invariant.marks_are.size, c.ranges.address.fits))
    c.index.ensures 0) ∙ protects-is _ _ _ _ c.self.invariant (omega (arith, c.ranges.address.fits)))

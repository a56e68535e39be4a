use Rattle.a2_bus.proofs.Starting.{AreBlank}
use Rattle.a2_bus.proofs.start.blank_page.Given as goal

abbrev pub invariant-loop-row : goal.invariant-loop-row
invariant-loop-row l = AreBlank l.fn.ram l.ram l.row

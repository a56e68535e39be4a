use Rattle.a2_bus.specs.View.{memory_of}
use Rattle.a2_services.specs.Blocks.{black}
use Rattle.a2_services.proofs.Screens.{Turning}
use Rattle.a2_services.proofs.blocks.clrscr.Given as goal

abbrev pub invariant-loop-row : goal.invariant-loop-row
invariant-loop-row g l = Turning black (memory_of l.initial.space) (memory_of l.space) 0 l.row

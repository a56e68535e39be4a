use Rattle.a2_bus.specs.View.{memory_of}
use Rattle.a2_page.specs.Grid.{cleared}
use Rattle.a2_services.specs.Fits.{window_at}
use Rattle.a2_services.proofs.Screens.{Turning}
use Rattle.a2_services.proofs.screen.clear.Given as goal

abbrev pub invariant-loop-row : goal.invariant-loop-row
invariant-loop-row g l = let m = memory_of l.initial.space in Turning (cleared (window_at l.edges) m.page1) m (memory_of l.space) l.edges.top l.row

use Rattle.std.proofs.Common.{◌≡◌, length}
use Rattle.a2_bus.specs.View.{memory_of}
use Rattle.a2_services.specs.Fits.{CursorFits}
use Rattle.a2_services.specs.Reading.{rest_of}
use Rattle.a2_services.proofs.line.read_line.Given as goal

abbrev pub invariant-loop-key : goal.invariant-loop-key
invariant-loop-key g l = record {
  fits : CursorFits (memory_of l.space);
  same : rest_of (memory_of l.space) l.length ≡ rest_of (memory_of l.initial.space) 0;
}

abbrev pub decreases-loop-key : goal.decreases-loop-key
decreases-loop-key g l = length (memory_of l.space).devices.keys

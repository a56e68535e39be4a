use Rattle.std.specs.Prelude.{slice_get}
use Rattle.std.proofs.Common.{◌≡◌}
use Rattle.a2_debugger.specs.Stops.{is_changed_from}
use Rattle.a2_debugger.proofs.stops.is_changed_in.Given as goal

-- one of the bytes so far has changed
abbrev pub invariant-loop-offset : goal.invariant-loop-offset
invariant-loop-offset l = l.is_changed ≡ is_changed_from l.span.first l.offset (slice_get l.before) (slice_get l.ram)

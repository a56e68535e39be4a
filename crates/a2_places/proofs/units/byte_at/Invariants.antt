use Rattle.std.proofs.Common.{◌≡◌, ◌+◌, drop}
use Rattle.a2_places.specs.Units.{byte_at}
use Rattle.a2_places.proofs.units.byte_at.Given as goal

-- the place is as far from here as it is in what is left
abbrev pub invariant-loop-index : goal.invariant-loop-index
invariant-loop-index l = byte_at l.line l.fn.count ≡ l.index + byte_at (drop l.index l.line) l.left

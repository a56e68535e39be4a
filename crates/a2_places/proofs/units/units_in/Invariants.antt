use Rattle.std.proofs.Common.{◌≡◌, ◌*◌, ◌≤◌, take, sum_by}
use Rattle.a2_places.specs.Units.{units_of}
use Rattle.a2_places.proofs.units.units_in.Given as goal

-- the units so far, at most two a byte
abbrev pub invariant-loop-byte : goal.invariant-loop-byte
invariant-loop-byte l = record {
  sum : l.total ≡ sum_by units_of (take l.byte-index l.text);
  small : l.total ≤ 2 * l.byte-index;
}

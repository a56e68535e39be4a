use Rattle.std.proofs.Common.{◌≡◌, ◌<◌, ◌≤◌, ◌+◌, drop}
use Rattle.a2_hex.specs.Images.{held}
use Rattle.a2_formats.specs.Laying.{laid}
use Rattle.a2_formats.proofs.laying.lay.Given as goal

-- laying the bytes that are left gives what laying all of them gives
abbrev pub invariant-loop-byte : goal.invariant-loop-byte
invariant-loop-byte l = record {
  laid : laid l.place (held l.image) l.at (drop l.byte-index l.bytes) ≡ laid l.fn.place (held l.fn.image) l.fn.start l.bytes;
  small : l.at ≤ l.fn.start + l.byte-index;
}

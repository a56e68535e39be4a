use Rattle.std.proofs.Common.{◌≡◌, ◌+◌, drop}
use Rattle.a2_hex.specs.Images.{held, overlaid}
use Rattle.a2_formats.proofs.loading.put_bytes.Given as goal

-- the bytes left go after those already put
abbrev pub invariant-loop-byte : goal.invariant-loop-byte
invariant-loop-byte l = record {
  image : overlaid (held l.image) l.next (drop l.byte-index l.bytes) ≡ overlaid (held l.fn.image) l.fn.address l.bytes;
  next : l.next ≡ l.fn.address + l.byte-index;
}

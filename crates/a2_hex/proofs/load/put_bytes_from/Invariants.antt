use Rattle.std.proofs.Common.{◌≡◌, ◌+◌, ◌≤◌, List, ℕ, Some, length}
use Rattle.a2_hex.specs.Images.{held, overlaid}
use Rattle.a2_hex.specs.ObjectLines.{hex_bytes}
use Rattle.a2_hex.proofs.load.put_bytes_from.Given as goal

-- the bytes left go after those already put
abbrev pub invariant-loop-byte : goal.invariant-loop-byte
invariant-loop-byte g l =
    (left : List ℕ) × (hex_bytes l.rest ≡ Some left) × (overlaid (held l.image) l.next left ≡ overlaid (held l.fn.image) l.fn.address g.all)
    × (l.next + length left ≡ l.fn.address + length g.all) × (l.fn.address ≤ l.next)

abbrev pub decreases-loop-byte : goal.decreases-loop-byte
decreases-loop-byte g l = length l.rest

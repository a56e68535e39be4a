use Rattle.std.proofs.Common.{◌≡◌, ◌+◌, ◌-◌, ◌*◌, ◌≤◌, ◌++◌, length}
use Rattle.a2_picture.specs.Png.{line, pieces, pixels}
use Rattle.a2_picture.proofs.picture.append_line.Given as goal

-- the pixels that are left go after those so far
abbrev pub invariant-loop-x : goal.invariant-loop-x
invariant-loop-x l = record {
  bytes : l.lines.items ++ pieces (pixels l.ram l.switches l.y) l.x (280 - l.x) ≡ l.fn.lines.items ++ line l.ram l.switches l.y;
  size : length l.lines.items ≡ length l.fn.lines.items + 1 + 2 * l.x;
  inside : l.x ≤ 280;
}

use Rattle.std.proofs.Common.{◌≡◌, ◌-◌, ◌*◌, ◌≤◌, ◌++◌}
use Rattle.a2_hex.specs.Images.{held, ram_end}
use Rattle.a2_diff.specs.Rows.{rows_from, rows}
use Rattle.a2_diff.proofs.rows.rows_of.Given as goal

-- the rows so far, with those that are left, are all rows
abbrev pub invariant-loop-i : goal.invariant-loop-i
invariant-loop-i l = record {
  rows : l.rows.items ++ rows_from (held l.image) l.at (ram_end - l.i) ≡ rows (held l.image);
  near : l.at ≤ 255 * l.i;
}

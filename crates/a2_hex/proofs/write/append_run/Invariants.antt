use Rattle.std.proofs.Common.{◌≡◌, ◌+◌, ◌-◌, ◌*◌, ◌≤◌, ◌++◌, length}
use Rattle.std.specs.List.{flat_map}
use Rattle.a2_hex.specs.Images.{held}
use Rattle.a2_hex.specs.ObjectText.{after_blank, run}
use Rattle.a2_hex.proofs.write.append_run.Given as goal

-- the part of the run that is left goes after the line so far
abbrev pub invariant-loop-i : goal.invariant-loop-i
invariant-loop-i g l = record {
  items : l.line.items ++ flat_map after_blank (run (held l.image) (l.address + l.i) (l.most - l.i)) ≡ l.fn.line.items ++ flat_map after_blank (run (held l.image) l.address l.most);
  room : length l.line.items ≤ length l.fn.line.items + 3 * l.i;
}

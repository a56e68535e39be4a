use Rattle.std.proofs.Common.{◌≡◌, ◌+◌, ◌-◌, ◌≤◌, length, take}
use Rattle.std.specs.List.{AllByRecursion}
use Rattle.a2_diff.specs.Comparison.{firsts, seconds, IsTrue_of}
use Rattle.a2_diff.proofs.comparison.changes_between.Given as goal

-- the changes so far compare the rows before both places
abbrev pub invariant-loop-i : goal.invariant-loop-i
invariant-loop-i l = record {
  first : firsts l.changes.items ≡ take l.i l.rows;
  second : seconds l.changes.items ≡ take l.j l.others;
  alike : AllByRecursion IsTrue_of l.changes.items;
  i : l.i ≤ length l.rows;
  j : l.j ≤ length l.others;
}

abbrev pub decreases-loop-i : goal.decreases-loop-i
decreases-loop-i l = (length l.rows - l.i) + (length l.others - l.j)

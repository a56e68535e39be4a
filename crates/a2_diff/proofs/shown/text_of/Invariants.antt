use Rattle.std.proofs.Common.{◌≡◌, take}
use Rattle.std.specs.List.{flat_map}
use Rattle.a2_diff.specs.Comparison.{shown}
use Rattle.a2_diff.proofs.shown.text_of.Given as goal

-- the lines of the changes so far
abbrev pub invariant-loop-change : goal.invariant-loop-change
invariant-loop-change l = l.text.items ≡ flat_map shown (take l.change-index l.changes)

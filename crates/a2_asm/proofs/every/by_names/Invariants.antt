use Rattle.std.proofs.Common.{◌≡◌, ◌+◌, ◌++◌, take, drop}
use Rattle.a2_asm.specs.Entries.{entries}
use Rattle.a2_asm.specs.Every.{errors_in_order, refuse_by_names, labels, by_names}
use Rattle.a2_asm.proofs.every.by_names.Given as goal

abbrev pub invariant-loop-line : goal.invariant-loop-line
invariant-loop-line g l = record {
  index : l.n ≡ l.line-index + 1;
  labelled : entries l.known ≡ labels (take l.line-index l.lines);
  told : l.faults.items ++ errors_in_order (refuse_by_names (labels l.lines)) (take l.line-index l.lines) (drop l.line-index l.lines) ≡ by_names l.lines;
}

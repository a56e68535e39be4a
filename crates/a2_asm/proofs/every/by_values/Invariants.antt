use Rattle.std.proofs.Common.{◌≡◌, take}
use Rattle.a2_asm.specs.Entries.{entries}
use Rattle.a2_asm.specs.Pass.{source_rows}
use Rattle.a2_asm.specs.Every.{by_values}
use Rattle.a2_asm.proofs.every.by_values.Given as goal

abbrev pub invariant-loop-i : goal.invariant-loop-i
invariant-loop-i g l = l.faults.items ≡ by_values (entries l.known) (take l.i (source_rows l.lines))

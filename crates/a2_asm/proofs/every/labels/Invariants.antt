use Rattle.std.proofs.Common.{◌≡◌, take}
use Rattle.a2_asm.specs.Entries.{entries}
use Rattle.a2_asm.specs.Every.{labels}
use Rattle.a2_asm.proofs.every.labels.Given as goal

abbrev pub invariant-loop-line : goal.invariant-loop-line
invariant-loop-line g l = entries l.known ≡ labels (take l.line-index l.lines)

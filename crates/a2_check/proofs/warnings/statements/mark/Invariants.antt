use Rattle.std.proofs.Common.{◌≡◌, length, take}
use Rattle.a2_check.specs.Warnings.{MarksBegins}
use Rattle.a2_check.proofs.warnings.statements.mark.Given as goal

-- the instructions so far are marked
abbrev pub invariant-loop-statement : goal.invariant-loop-statement
invariant-loop-statement g l = record {
  size : length l.marks.items ≡ 65536;
  marked : MarksBegins (take l.statement-index l.statements) l.marks.items;
}

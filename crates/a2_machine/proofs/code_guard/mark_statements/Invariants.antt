use Rattle.std.proofs.Common.{◌≡◌, ℕ, ◌<◌, take}
use Rattle.std.specs.List.{list_any}
use Rattle.a2_asm.specs.Programs.{begins_at, is_code}
use Rattle.a2_bus.specs.Memory.{ram_end}
use Rattle.a2_machine.specs.CodeGuards.{BlocksBy}
use Rattle.a2_machine.specs.ByteRun.{addresses_below}
use Rattle.a2_machine.specs.Marks.{begins, lies, AreStarted, BeginOnlyBelow}
use Rattle.a2_machine.proofs.code_guard.mark_statements.Given as goal

abbrev pub invariant-loop-statement : goal.invariant-loop-statement
invariant-loop-statement l = record {
  started : AreStarted l.marks;
  begun : (a : ℕ) → a < ram_end → begins l.marks a ≡ list_any (begins_at a) (take l.statement-index l.statements);
  laid : (a : ℕ) → a < ram_end → lies l.marks a ≡ is_code (take l.statement-index l.statements) a;
  ends : BeginOnlyBelow l.marks l.marked.end;
  blocks : BlocksBy l.marked.blocked (addresses_below ram_end (lies l.marks));
}

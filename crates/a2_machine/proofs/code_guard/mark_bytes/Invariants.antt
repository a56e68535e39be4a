use Rattle.std.proofs.Common.{◌≡◌, ℕ, ◌<◌}
use Rattle.std.specs.Prelude.{◌||◌, ◌&&◌, nat_le, nat_lt}
use Rattle.a2_bus.specs.Memory.{ram_end}
use Rattle.a2_machine.specs.CodeGuards.{BlocksBy}
use Rattle.a2_machine.specs.ByteRun.{addresses_below}
use Rattle.a2_machine.specs.Marks.{begins, lies, AreStarted}
use Rattle.a2_machine.proofs.code_guard.mark_bytes.Given as goal

abbrev pub invariant-loop-address : goal.invariant-loop-address
invariant-loop-address l = record {
  started : AreStarted l.marks;
  begun : (a : ℕ) → a < ram_end → begins l.marks a ≡ begins l.fn.marks a;
  laid : (a : ℕ) → a < ram_end → lies l.marks a ≡ (lies l.fn.marks a || (nat_le l.start a && nat_lt a l.address));
  blocks : BlocksBy l.blocked (addresses_below ram_end (lies l.marks));
}

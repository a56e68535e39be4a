use Rattle.std.proofs.Common.{◌-◌, ◌≤◌, length, take}
use Rattle.a2_debug_script.specs.Stored.{AllBelow}
use Rattle.a2_debug_script.proofs.typing.typed_below.Given as goal

abbrev pub invariant-loop-typed : goal.invariant-loop-typed
invariant-loop-typed l = record {
  known : l.typed ≤ length l.log;
  under : AllBelow l.count (take l.typed l.log);
}

abbrev pub decreases-loop-typed : goal.decreases-loop-typed
decreases-loop-typed l = length l.log - l.typed

use Rattle.std.proofs.Common.{◌≡◌, ◌≤◌, ◌+◌, ◌-◌}
use Rattle.a2_bus.specs.View.{memory_of}
use Rattle.a2_trace.specs.Choices.{differ_from}
use Rattle.a2_trace.proofs.choice.differ.Given as goal

-- the memories differ if and only if they differ from the address on
abbrev pub invariant-loop-address : goal.invariant-loop-address
invariant-loop-address g l =
    (l.fn.span.first ≤ l.address)
    × (differ_from (memory_of l.old.state.bus) (memory_of l.new.state.bus) l.fn.span.first (l.fn.span.last + 1 - l.fn.span.first)
    ≡ differ_from (memory_of l.old.state.bus) (memory_of l.new.state.bus) l.address (l.fn.span.last + 1 - l.address))

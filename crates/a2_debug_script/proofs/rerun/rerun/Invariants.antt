use Rattle.std.proofs.Common.{◌≡◌, ◌+◌, ◌-◌, ◌<◌, ◌≤◌, ◌^◌, take, drop}
use Rattle.a2_debug_script.specs.Stored.{IsAt, world_with_keys, NoneAbove, NoneBelow}
use Rattle.a2_debug_script.proofs.rerun.rerun.Given as goal

abbrev pub invariant-loop-i : goal.invariant-loop-i
invariant-loop-i g l = record {
  here : IsAt l.program (world_with_keys l.program (take l.i l.log) l.machine.state.steps) l.machine.state.steps l.machine.state;
  ahead : l.machine.state.steps ≤ l.to;
  more : l.fn.machine.state.steps ≤ l.machine.state.steps;
  past : NoneAbove l.machine.state.steps (take l.i l.log);
  later : NoneBelow l.machine.state.steps (drop l.i l.log);
  made : l.fn.machine.made + (l.to - l.fn.machine.state.steps) < 2 ^ 64 → l.machine.made + l.fn.machine.state.steps ≡ l.fn.machine.made + l.machine.state.steps;
}

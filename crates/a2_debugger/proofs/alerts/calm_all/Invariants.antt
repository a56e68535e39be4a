use Rattle.std.proofs.Common.{◌≡◌, length}
use Rattle.a2_machine.specs.State.{world_of_state}
use Rattle.a2_debugger.specs.Alerts.{MarksAllBut}
use Rattle.a2_debugger.proofs.alerts.calm_all.Given as goal

-- an address whose mark was cleared is calm
abbrev pub invariant-loop-statement : goal.invariant-loop-statement
invariant-loop-statement g l = record {
  size : length l.marks ≡ 65536;
  all : MarksAllBut l.watches l.statements (world_of_state l.machine.state).memory l.marks;
}

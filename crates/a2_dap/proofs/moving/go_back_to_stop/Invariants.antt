use Rattle.a2_dap.specs.Requests.{Travels}
use Rattle.a2_dap.proofs.moving.go_back_to_stop.Given as goal

-- calls of the debugger led here
abbrev pub invariant-loop : goal.invariant-loop
invariant-loop l = Travels l.fn.inspector l.inspector

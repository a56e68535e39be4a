use Rattle.a2_dap.specs.Requests.{Travels}
use Rattle.a2_dap.proofs.marking.set_breaks.Given as goal

-- calls of the debugger led here
abbrev pub invariant-loop-mark : goal.invariant-loop-mark
invariant-loop-mark l = Travels l.fn.inspector l.inspector

use Rattle.a2_dap.specs.Requests.{Travels}
use Rattle.a2_dap.proofs.marking.set_watches.Given as goal

-- calls of the debugger led here
abbrev pub invariant-loop-span : goal.invariant-loop-span
invariant-loop-span l = Travels l.fn.inspector l.inspector

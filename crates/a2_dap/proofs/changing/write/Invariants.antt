use Rattle.a2_dap.specs.Requests.{Reaches}
use Rattle.a2_dap.proofs.changing.write.Given as goal

-- calls of the debugger led here
abbrev pub invariant-loop-byte : goal.invariant-loop-byte
invariant-loop-byte l = Reaches l.fn.inspector l.inspector

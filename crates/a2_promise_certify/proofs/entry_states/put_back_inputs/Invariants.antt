use Rattle.std.specs.Prelude.{drop}
use Rattle.a2_promise_certify.specs.But.{IsEqualExcept}
use Rattle.a2_promise_certify.specs.States.{has_byte}
use Rattle.a2_promise_certify.proofs.entry_states.put_back_inputs.Given as goal

abbrev pub invariant-loop-input : goal.invariant-loop-input
invariant-loop-input l = IsEqualExcept (has_byte l.inputs) l.fn.space l.other → IsEqualExcept (has_byte (drop l.input-index l.inputs)) l.space l.other

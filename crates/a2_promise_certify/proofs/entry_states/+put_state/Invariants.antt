use Rattle.std.proofs.Common.{length}
use Rattle.a2_promise_certify.proofs.entry_states.+put_state.Given as goal

abbrev pub decreases-put_state : goal.decreases-put_state
decreases-put_state l = length l.inputs.now

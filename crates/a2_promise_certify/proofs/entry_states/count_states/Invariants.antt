use Rattle.std.specs.Prelude.{◌≡◌, ◌*◌, map, drop}
use Rattle.a2_footprint.specs.Counting.{states_of}
use Rattle.a2_promise_certify.specs.States.{values_of}
use Rattle.a2_promise_certify.proofs.entry_states.count_states.Given as goal

abbrev pub invariant-loop-input : goal.invariant-loop-input
invariant-loop-input l =
    states_of (map values_of (drop l.input-index l.inputs)) * l.states ≡ states_of (map values_of l.inputs)

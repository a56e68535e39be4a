use Rattle.std.specs.Prelude.{◌<◌, ℕ}
use Rattle.a2_promise_certify.specs.Certifying.{IsReady, IsStateTried, start_of}
use Rattle.a2_promise_certify.proofs.every_state.are_tried.Given as goal

abbrev pub invariant-loop-number : goal.invariant-loop-number
invariant-loop-number l =
    IsReady l.setup.base.now l.setup.inputs.now l.before l.walk.space l.stored
    × ((k : ℕ) → k < l.number → IsStateTried l.setup.known.now l.setup.parts l.setup.promise.now l.setup.most (start_of l.setup k))

use Rattle.std.specs.Prelude.{◌*◌}
use Rattle.std.proofs.Common.{ap, ◌∙◌}
use Rattle.std.proofs.lemmas.List.{drop_more}
use Rattle.a2_promise_certify.proofs.Putting.{one_counted}
use Rattle.a2_promise_certify.proofs.entry_states.count_states.Goals as goal

pub loop-input-preserved : goal.loop-input-preserved
loop-input-preserved c =
    one_counted c.args.inputs.now c.loop-input.input-index _ c.loop-input.states c.in_ok-states.states _
    (drop_more c.args.inputs.now c.loop-input.input-index _ c.loop-input-test.true)
    (c.in_ok-states.ensures.1 ∙ ap (λ k. c.loop-input.states * k) c.values.ensures.is) c.loop-input.invariant

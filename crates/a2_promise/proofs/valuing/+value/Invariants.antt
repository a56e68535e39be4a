use Rattle.std.proofs.Common.{◌≡◌, pos, slice_set}
use Rattle.a2_promise.specs.Values.{moment_of, visited, value_in, each_below, sum_below}
use Rattle.a2_promise.proofs.valuing.+value.Given as goal

abbrev pub invariant-each_below-loop-number : goal.invariant-each_below-loop-number
invariant-each_below-loop-number g l = l.holds ≡ each_below l.number
    (λ k. value_in l.body (moment_of l.scene.entry.now) (moment_of l.scene.exit.now) (visited l.scene.visits.now) (slice_set l.scene.names l.name (pos k)))

abbrev pub invariant-sum_below-loop-number : goal.invariant-sum_below-loop-number
invariant-sum_below-loop-number g l = l.sum ≡ sum_below l.number
    (λ k. value_in l.body (moment_of l.scene.entry.now) (moment_of l.scene.exit.now) (visited l.scene.visits.now) (slice_set l.scene.names l.name (pos k)))

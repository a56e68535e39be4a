use Rattle.std.specs.Prelude.{◌≡◌, ◌-◌}
use Rattle.a2_timed_keys.specs.Rerun.{worlds_of, end_of}
use Rattle.a2_trace.specs.Trace.{count_chosen}
use Rattle.a2_trace.proofs.trace.count_rest.Given as goal

-- the count of chosen steps is right
abbrev pub invariant-loop-chosen : goal.invariant-loop-chosen
invariant-loop-chosen g l = record {
  run : l.rerun.run ≡ l.ended;
  count : l.count ≡ count_chosen l.choice (worlds_of l.ended) l.rerun.steps;
}

abbrev pub decreases-loop-chosen : goal.decreases-loop-chosen
decreases-loop-chosen g l = (end_of l.ended).steps - l.rerun.steps

use Rattle.std.proofs.Common.{◌≡◌, ◌≤◌, vec_len, vec_capacity}
use Rattle.std.specs.List.{sum_by}
use Rattle.a2_debug_script.proofs.checkpoints.Checkpoints.new.Given as goal

abbrev pub invariant-loop : goal.invariant-loop
invariant-loop g l = record {
  len : vec_len l.spare ≡ l.counter;
  room : 8 ≤ vec_capacity l.spare;
  made : sum_by (λ b. b.value.made) l.spare.items ≡ 0;
}

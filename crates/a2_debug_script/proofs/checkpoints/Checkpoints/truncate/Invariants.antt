use Rattle.std.proofs.Common.{◌≡◌, ◌+◌, ◌≤◌, length, map, take, vec_len, vec_capacity}
use Rattle.std.specs.List.{sum_by}
use Rattle.a2_debug_script.specs.Held.{unguarded}
use Rattle.a2_debug_script.proofs.checkpoints.Checkpoints.truncate.Given as goal

abbrev pub invariant-loop-self : goal.invariant-loop-self
invariant-loop-self g l = record {
  capacity : l.self-inside.ring.capacity ≡ 8;
  eight : length l.self-inside.ring.items + vec_len l.self-inside.spare ≡ 8;
  room : 8 ≤ vec_capacity l.self-inside.spare;
  held : take l.most (map (λ b. unguarded b.value.state) l.self-inside.ring.items) ≡ take l.most l.fn.self.held;
  made : sum_by (λ b. b.value.made) l.self-inside.ring.items + sum_by (λ b. b.value.made) l.self-inside.spare.items ≡ l.fn.self.made;
}

abbrev pub decreases-loop-self : goal.decreases-loop-self
decreases-loop-self g l = length l.self-inside.ring.items

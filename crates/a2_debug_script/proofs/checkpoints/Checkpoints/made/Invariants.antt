use Rattle.std.proofs.Common.{◌≡◌, ◌+◌, ◌*◌, ◌≤◌, length, take, drop}
use Rattle.std.specs.List.{sum_by}
use Rattle.a2_debug_script.proofs.checkpoints.Checkpoints.made.Given as goal

abbrev pub invariant-loop-i : goal.invariant-loop-i
invariant-loop-i g l = (l.made ≡ sum_by (λ b. b.value.made) (take l.i l.self-inside.ring.items)) × (l.made ≤ l.i * 18446744073709551615)

abbrev pub invariant-loop-machine : goal.invariant-loop-machine
invariant-loop-machine g l = (l.made + sum_by (λ b. b.value.made) (drop l.machine-index l.machine-items) ≡ l.self.made)
    × (l.made + (length l.machine-items) * 18446744073709551615 ≤ (8 + l.machine-index) * 18446744073709551615)

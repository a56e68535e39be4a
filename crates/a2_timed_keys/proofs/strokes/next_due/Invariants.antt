use Rattle.std.proofs.Common.{◌≡◌, ℕ, ◌<◌, ◌≤◌, [], take}
use Rattle.a2_timed_keys.specs.Typed.{keys_at}
use Rattle.a2_timed_keys.proofs.strokes.next_due.Given as goal

-- no key so far is typed between
abbrev pub invariant-loop-stroke : goal.invariant-loop-stroke
invariant-loop-stroke l = record {
  more : l.made < l.until;
  within : l.until ≤ l.end;
  none : (k : ℕ) → l.made < k → k < l.until → keys_at (take l.stroke-index l.typed) k ≡ [];
}

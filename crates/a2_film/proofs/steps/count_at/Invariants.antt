use Rattle.std.proofs.Common.{◌≡◌, ◌≤◌, length, take}
use Rattle.a2_timed_keys.specs.Typed.{keys_at}
use Rattle.a2_film.proofs.steps.count_at.Given as goal

-- those so far are counted
abbrev pub invariant-loop-stroke : goal.invariant-loop-stroke
invariant-loop-stroke l = record {
  counted : l.count ≡ length (keys_at (take l.stroke-index l.typed) l.steps);
  within : l.count ≤ l.stroke-index;
}

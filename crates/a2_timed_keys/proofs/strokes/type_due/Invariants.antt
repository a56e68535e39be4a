use Rattle.std.proofs.Common.{◌≡◌, take}
use Rattle.a2_timed_keys.specs.Typed.{keys_at, with_keys}
use Rattle.a2_timed_keys.proofs.strokes.type_due.Given as goal

-- what was typed so far
abbrev pub invariant-loop-stroke : goal.invariant-loop-stroke
invariant-loop-stroke g l = l.machine ≡ with_keys (keys_at (take l.stroke-index l.typed) l.steps) l.fn.machine

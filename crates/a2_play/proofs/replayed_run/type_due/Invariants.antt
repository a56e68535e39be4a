use Rattle.std.proofs.Common.{◌≡◌, ◌<◌, take}
use Rattle.std.specs.List.{All}
use Rattle.a2_timed_keys.specs.declared.strokes.Typed.{Typed}
use Rattle.a2_timed_keys.specs.Typed.{keys_at, with_keys}
use Rattle.a2_play.specs.Agains.{HasRoom}
use Rattle.a2_play.proofs.replayed_run.type_due.Given as goal

-- what was typed so far
abbrev pub invariant-loop-stroke : goal.invariant-loop-stroke
invariant-loop-stroke g l =
    All (λ (t : Typed). t.key < 128) l.log → HasRoom (keys_at l.log l.steps) l.fn.machine
    → l.machine ≡ with_keys (keys_at (take l.stroke-index l.log) l.steps) l.fn.machine

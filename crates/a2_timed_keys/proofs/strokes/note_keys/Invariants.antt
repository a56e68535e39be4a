use Rattle.std.proofs.Common.{◌≡◌, ◌++◌, ◌<◌, take}
use Rattle.std.specs.List.{All}
use Rattle.a2_timed_keys.specs.Typed.{typed_after}
use Rattle.a2_timed_keys.proofs.strokes.note_keys.Given as goal

-- what was noted so far
abbrev pub invariant-loop-key : goal.invariant-loop-key
invariant-loop-key g l = record {
  items : l.typed.items ≡ l.fn.typed.items ++ typed_after l.steps (take l.key-index l.keys);
  codes : All (λ t. t.key < 128) l.typed.items;
}

-- Going back in a play. This project's profile.
use Rattle.std.specs.Prelude.{◌≡◌, ℕ, ◌-◌, ◌<◌, ◌≤◌, nat_lt, List, filter}
use Rattle.a2_asm.specs.Assembled.{Assembled}
use Rattle.a2_timed_keys.specs.declared.strokes.Typed.{Typed}
use Rattle.a2_play.specs.Played.{Play, world_with_keys}

-- the keys that were typed before a position, which is a number of steps
abbrev pub typed_before : ℕ → List Typed → List Typed
typed_before position log = filter (λ t. nat_lt t.steps position) log

-- The play is at the first position that is at most this many cycles before the old one, and keys that were typed
-- from there on are forgotten.
pub record WentBack (program : Assembled) (cycles : ℕ) (old new : Play) : Type 0 where
  pub within : new.machine.state.steps ≤ old.machine.state.steps
  pub near : old.machine.state.cycles - cycles ≤ new.machine.state.cycles
  pub first : (k : ℕ) → k < new.machine.state.steps → (world_with_keys program old.log k).cycles < old.machine.state.cycles - cycles
  pub log : new.log ≡ typed_before new.machine.state.steps old.log

-- A run to a breakpoint has one end.
use Rattle.std.specs.Prelude.{◌≡◌, ℕ, ◌-◌, ◌<◌, ◌≤◌, Bool, None, refl}
use Rattle.std.proofs.Common.{sym, ap, ◌∙◌, arith}
use Rattle.a2_machine.specs.declared.causes.Cause.{Cause}
use Rattle.a2_machine.specs.declared.Stop.{Stop}
use Rattle.a2_machine.specs.declared.Stop.TheVariants as stop
use Rattle.a2_machine.specs.Meaning.{End, stuck, world_at}
use Rattle.a2_machine.specs.State.{Device, world_of_state, code_of, steps_left, EndsBy, IsRunTo}
use Rattle.a2_machine.proofs.Runs.{end-unique}
use Rattle.a2_machine.proofs.runs_to_breakpoints_have_one_end.Goals as goal

-- a property of each such run, whatever ended it
record Went (limit : ℕ) (old new : Device) : Type 0 where
  more : old.state.steps ≤ new.state.steps
  within : new.state.steps - old.state.steps ≤ steps_left limit old.state
  reached : world_of_state new.state ≡ world_at (code_of old.state) (world_of_state old.state) (new.state.steps - old.state.steps)
  going : (k : ℕ) → k < new.state.steps - old.state.steps → stuck (code_of old.state) (world_at (code_of old.state) (world_of_state old.state) k) ≡ None

went : (limit : ℕ) (old new : Device) (why : Stop) → EndsBy limit old new (new.state.steps - old.state.steps) why → Went limit old new
went limit old new (stop.Cause cause) ran = record { more = ran.more; within = ran.end.within; reached = ran.end.reached; going = ran.end.first }
went limit old new stop.Breakpoint ran = record { more = omega (arith, ran.0, ran.2.steps); within = ran.1; reached = ran.2.reached; going = ran.2.going }

module _ (is_breakpoint : ℕ → Bool) (limit : ℕ) (old : Device) where
  -- neither run ends before the other
  not_before : (new other : Device) (a b : Stop) → IsRunTo is_breakpoint limit old new a → IsRunTo is_breakpoint limit old other b
      → new.state.steps - old.state.steps < other.state.steps - old.state.steps → ⊥
  not_before new other (stop.Cause cause) b x y less =
      let later = went limit old other b y.ends in
      let free = ap (stuck (code_of old.state)) x.ends.end.reached ∙ later.going (new.state.steps - old.state.steps) less in
      grind (arith, x.ends.end.cause, free, less, later.within)
  not_before new other stop.Breakpoint b x y less =
      grind (arith, x.last x.ends.0, x.ends.2.reached, y.passed (new.state.steps - old.state.steps) x.ends.0 less)

  module _ (new other : Device) (a b : Stop) (x : IsRunTo is_breakpoint limit old new a) (y : IsRunTo is_breakpoint limit old other b) where
    count : new.state.steps - old.state.steps ≡ other.state.steps - old.state.steps
    count = grind (arith, not_before new other a b x y, not_before other new b a y x)

    worlds : world_of_state new.state ≡ world_of_state other.state
    worlds =
        (went limit old new a x.ends).reached ∙ ap (λ n. world_at (code_of old.state) (world_of_state old.state) n) count
        ∙ sym (went limit old other b y.ends).reached

  -- if one run reaches a breakpoint, the other does too
  apart : (new other : Device) (cause : Cause) → IsRunTo is_breakpoint limit old new (stop.Cause cause) → IsRunTo is_breakpoint limit old other stop.Breakpoint → ⊥
  apart new other cause x y =
      let same = count new other (stop.Cause cause) stop.Breakpoint x y in
      grind (arith, y.last y.ends.0, worlds new other (stop.Cause cause) stop.Breakpoint x y, x.last (omega (arith, same, y.ends.0)))

  stops : (new other : Device) (a b : Stop) → IsRunTo is_breakpoint limit old new a → IsRunTo is_breakpoint limit old other b → a ≡ b
  stops new other (stop.Cause c) (stop.Cause d) x y =
      ap (λ (e : End). stop.Cause e.cause) (end-unique (code_of old.state) (world_of_state old.state) (steps_left limit old.state) _ _ x.ends.end y.ends.end)
  stops new other (stop.Cause c) stop.Breakpoint x y = absurd (apart new other c x y)
  stops new other stop.Breakpoint (stop.Cause d) x y = absurd (apart other new d y x)
  stops new other stop.Breakpoint stop.Breakpoint x y = refl

pub returns : goal.returns
returns c is_breakpoint limit old new other a b x y = (
  worlds is_breakpoint limit old new other a b x y,
  omega (arith, count is_breakpoint limit old new other a b x y, (went limit old new a x.ends).more, (went limit old other b y.ends).more),
  stops is_breakpoint limit old new other a b x y,
)

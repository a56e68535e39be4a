use Rattle.std.specs.Prelude.{◌≡◌, ◌||◌, drop}
use Rattle.a2_footprint.specs.declared.Part.{Part}
use Rattle.a2_promise_certify.specs.States.{has_part}
use Rattle.a2_promise_certify.specs.Walking.{knows_part, no_parts}
use Rattle.a2_promise_certify.proofs.every_state.parts_at.Given as goal

abbrev pub invariant-loop-input : goal.invariant-loop-input
invariant-loop-input l =
    (part : Part) → (has_part (drop l.input-index l.inputs) part || knows_part l.parts part) ≡ (has_part l.inputs part || knows_part no_parts part)

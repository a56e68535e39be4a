use Rattle.std.specs.Prelude.{◌≡◌, ◌||◌, ◌+◌, drop}
use Rattle.std.proofs.Common.{subst}
use Rattle.std.proofs.lemmas.List.{drop_more}
use Rattle.a2_footprint.specs.declared.Part.{Part}
use Rattle.a2_promise_certify.specs.States.{has_part}
use Rattle.a2_promise_certify.specs.Walking.{knows_part, no_parts}
use Rattle.a2_promise_certify.proofs.Knowing.{one_known}
use Rattle.a2_promise_certify.proofs.every_state.parts_at.Goals as goal

pub loop-input-preserved : goal.loop-input-preserved
loop-input-preserved c =
    let inputs = c.args.inputs.now in
    one_known _ (drop (c.loop-input.input-index + 1) inputs) c.loop-input.parts c.know.new.parts
    (λ part. has_part inputs part || knows_part no_parts part) c.know.ensures
    (subst (λ left. (part : Part) → (has_part left part || knows_part c.loop-input.parts part) ≡ (has_part inputs part || knows_part no_parts part))
    (drop_more inputs c.loop-input.input-index _ c.loop-input-test.true) c.loop-input.invariant)

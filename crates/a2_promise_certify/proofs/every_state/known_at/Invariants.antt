use Rattle.std.specs.Prelude.{◌||◌, ◌&&◌, not, is_some}
use Rattle.std.specs.List.{list_any}
use Rattle.a2_hex.specs.Images.{held}
use Rattle.a2_footprint.specs.RotatedStack.{in_stack}
use Rattle.a2_promise_certify.specs.Certifying.{AreMarkedWhere}
use Rattle.a2_promise_certify.specs.States.{is_byte}
use Rattle.a2_promise_certify.proofs.every_state.known_at.Given as goal

abbrev pub invariant-loop-address : goal.invariant-loop-address
invariant-loop-address l = AreMarkedWhere (λ a. (list_any (is_byte a) l.inputs || is_some (held l.image a)) && not (in_stack a)) l.known.items l.address

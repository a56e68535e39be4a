use Rattle.std.specs.Prelude.{◌≡◌, ◌||◌}
use Rattle.std.specs.List.{list_any}
use Rattle.std.proofs.Common.{take}
use Rattle.a2_footprint.specs.declared.Part.{Part}
use Rattle.a2_footprint.specs.Parts.{is_part}
use Rattle.a2_promise_certify.specs.Walking.{knows_part}
use Rattle.a2_promise_certify.proofs.known_parts.KnownParts.learn.Given as goal

abbrev pub invariant-loop-part : goal.invariant-loop-part
invariant-loop-part l =
    (part : Part) → knows_part l.self part ≡ (list_any (is_part part) (take l.part-index l.parts) || knows_part l.fn.self part)

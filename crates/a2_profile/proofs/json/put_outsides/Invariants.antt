use Rattle.std.proofs.Common.{◌-◌}
use Rattle.a2_page.proofs.Sending.{IsLeft}
use Rattle.a2_profile.specs.Json.{addresses_from, outside_objects, outside_array}
use Rattle.a2_profile.proofs.ItemLaws.{following}
use Rattle.a2_profile.proofs.json.put_outsides.Given as goal

-- the objects of the addresses so far were written
abbrev pub invariant-loop-address : goal.invariant-loop-address
invariant-loop-address g l =
    IsLeft (g.W.Output.taker l.fn.writer) (g.W.Output.taker l.writer) (outside_array l.program.statements l.profile)
    (following l.front (outside_objects l.program.statements l.profile (addresses_from l.address (65536 - l.address))))

use Rattle.std.proofs.Common.{◌-◌}
use Rattle.a2_asm.specs.Entries.{entries}
use Rattle.a2_page.proofs.Sending.{IsLeft}
use Rattle.a2_profile.specs.Json.{addresses_from, routine_objects, routines_array}
use Rattle.a2_profile.proofs.ItemLaws.{following}
use Rattle.a2_profile.proofs.routine_json.put_routines.Given as goal

-- the objects of the addresses so far were written
abbrev pub invariant-loop-address : goal.invariant-loop-address
invariant-loop-address g l =
    IsLeft (g.W.Output.taker l.fn.writer) (g.W.Output.taker l.writer) (routines_array (entries l.names) l.profile)
    (following l.front (routine_objects (entries l.names) l.profile (addresses_from l.address (65536 - l.address))))

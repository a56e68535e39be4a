use Rattle.std.proofs.Common.{refl, arith}
use Rattle.a2_debug_script.proofs.Marking.{none_marked}
use Rattle.a2_debug_script.proofs.marks.BreakSet.new.Goals as goal

pub invariant_of-new : goal.invariant_of-new
invariant_of-new g c = rw c.in_ok-places.ensures.items (none_marked _ refl, omega (arith, c.in_ok-places.ensures.exact))

use Rattle.std.proofs.Common.{arith}
use Rattle.a2_formats.proofs.SameLaws.{equal-maps}
use Rattle.a2_formats.proofs.same.is_same.Goals as goal

pub returns : goal.returns
returns c = λ _. equal-maps _ _ c.get.ensures.image c.get-2.ensures.image (λ a lt. c.loop-address.invariant a (omega (arith, lt)))

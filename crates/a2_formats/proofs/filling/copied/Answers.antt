use Rattle.std.proofs.Common.{ap, arith}
use Rattle.a2_formats.proofs.filling.copied.Goals as goal

pub loop-address-init : goal.loop-address-init
loop-address-init c = record {
  before = λ a lt. absurd (omega (arith, lt));
  ahead = λ a le. ap (λ f. f a) c.in_ok-copy.ensures.empty;
}

use Rattle.a2_hex.specs.Images.{held}
use Rattle.a2_promise_try.proofs.Filling.{FilledTo}
use Rattle.a2_promise_try.proofs.entry_ram.filled.Given as goal

abbrev pub invariant-loop-address : goal.invariant-loop-address
invariant-loop-address l = FilledTo (held l.program) (held l.image) l.address

use Rattle.std.proofs.Common.{◌≡◌, take, []}
use Rattle.a2_promise.specs.Reading.{made, stack_of}
use Rattle.a2_promise.proofs.parts.expr_of.Given as goal

abbrev pub invariant-loop-part : goal.invariant-loop-part
invariant-loop-part l = made (take l.part-index l.parts) [] ≡ stack_of l.made.items

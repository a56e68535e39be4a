use Rattle.std.proofs.Common.{◌≡◌, take}
use Rattle.a2_text.specs.Bytes.{value_of_digits}
use Rattle.a2_promise.proofs.reading.decimal_of.Given as goal

abbrev pub invariant-loop-digit : goal.invariant-loop-digit
invariant-loop-digit l = value_of_digits 10 (take l.digit-index l.digits) ≡ l.number

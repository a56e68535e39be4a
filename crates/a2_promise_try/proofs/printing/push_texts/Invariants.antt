use Rattle.std.proofs.Common.{◌≡◌, ◌++◌, drop}
use Rattle.a2_promise_try.specs.Printing.{bytes_of_texts}
use Rattle.a2_promise_try.proofs.printing.push_texts.Given as goal

abbrev pub invariant-loop-text : goal.invariant-loop-text
invariant-loop-text l = l.bytes.items ++ bytes_of_texts (drop l.text-index l.texts) ≡ l.fn.bytes.items ++ bytes_of_texts l.texts

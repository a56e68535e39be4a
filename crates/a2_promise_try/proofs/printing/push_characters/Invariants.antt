use Rattle.std.proofs.Common.{◌≡◌, ◌+◌, ◌%◌, ◌++◌, drop, map}
use Rattle.a2_promise_try.proofs.printing.push_characters.Given as goal

abbrev pub invariant-loop-character : goal.invariant-loop-character
invariant-loop-character l =
    l.bytes.items ++ map (λ c. 128 + c % 128) (drop l.character-index l.characters) ≡ l.fn.bytes.items ++ map (λ c. 128 + c % 128) l.characters

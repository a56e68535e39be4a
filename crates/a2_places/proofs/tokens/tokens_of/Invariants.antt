use Rattle.std.specs.Prelude.{All, length}
use Rattle.a2_places.specs.Words.{IsWithin}
use Rattle.a2_places.proofs.tokens.tokens_of.Given as goal

-- the words so far are in the line
abbrev pub invariant-words : goal.invariant-words
invariant-words l = All (IsWithin (length l.line)) l.tokens.items

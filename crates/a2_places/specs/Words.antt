-- The words of a line.
use Rattle.std.specs.Prelude.{ℕ, ◌≤◌}
use Rattle.a2_places.specs.declared.tokens.Token.{Token}

-- a word is in a line of so many bytes
abbrev pub IsWithin : ℕ → Token → Type 0
IsWithin count token = (token.from ≤ token.to) × (token.to ≤ count)

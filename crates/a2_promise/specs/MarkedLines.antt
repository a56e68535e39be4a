-- Which lines of a source are part of a promise. This project's profile.
use Rattle.std.specs.Prelude.{◌≡◌, ℕ, List, ◌∷◌}
use Rattle.a2_text.specs.Words.{after_blanks}

-- a line with optional spaces, `;:`, and then this text
abbrev pub Says : List ℕ → List ℕ → Type 0
Says line rest = after_blanks line ≡ 0x3B ∷ 0x3A ∷ rest

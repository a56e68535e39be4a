-- Texts that need nothing of the larger language. This project's profile.
use Rattle.std.specs.Prelude.{ℕ, List}
use Rattle.a2_syntax.specs.Bare.{BareLine}
use Rattle.a2_syntax.specs.Sources.{IsSource}

-- a text is a source: it is within the limits, and each of its lines is in the grammar
abbrev pub IsSomeSource : List ℕ → Type 0
IsSomeSource text = (source : List BareLine) × IsSource text source

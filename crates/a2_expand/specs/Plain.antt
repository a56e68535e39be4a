-- Texts that are plain: those that `a2` reads, and those without a line that uses the larger language. This project's own.
use Rattle.std.specs.Prelude.{◌≡◌, ℕ, List, true, ◌⊎◌}
use Rattle.a2_syntax.specs.Bare.{BareLine}
use Rattle.a2_syntax.specs.Sources.{IsSource}
use Rattle.a2_expand.specs.Larger.{uses_nothing_larger}

-- a text of the source language
abbrev pub IsRead : List ℕ → Type 0
IsRead text = (source : List BareLine) × IsSource text source

-- a text that has no other expansion than itself
abbrev pub IsPlain : List ℕ → Type 0
IsPlain text = (uses_nothing_larger text ≡ true) ⊎ IsRead text

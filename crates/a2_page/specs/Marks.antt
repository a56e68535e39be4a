-- The ways to write a byte of a page as one character.
use Rattle.std.specs.Prelude.{ℕ}
use Rattle.a2_page.specs.Text.{glyph, attribute_mark, block, block_digit}
use Rattle.a2_page.specs.declared.picture.Mark.{Mark}
use Rattle.a2_page.specs.declared.picture.Mark.TheVariants.{Glyph, Attribute, Block}

-- the character that is written for a byte
abbrev pub character : Mark → ℕ → ℕ
character Glyph byte = glyph byte
character Attribute byte = attribute_mark byte
character (Block half) byte = block_digit (block byte half)

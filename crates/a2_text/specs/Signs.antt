-- Bytes written as the characters they encode.
use Rattle.std.specs.Prelude.{ℕ, codes, get_or}
use Prim.Native.String.{String}

-- the byte of a text of one character, such as 59 for `;`
abbrev pub sign : String → ℕ
sign text = get_or (codes text) 0 0

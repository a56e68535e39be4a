-- Texts in XML and in a page of HTML: the characters that begin a tag, end an attribute or begin a reference are written as references. This
-- project's profile.
use Rattle.std.specs.Prelude.{◌≡◌, ◌==◌, ◌&&◌, ◌||◌, ℕ, Bool, true, not, nat_lt, List, [], ◌∷◌, codes, if◌then◌else◌}
use Rattle.std.specs.List.{flat_map, list_all}

-- what is written for a byte of a text, which may have several lines, and may be UTF-8
abbrev pub markup_byte : Bool → Bool → ℕ → List ℕ
markup_byte has_lines is_utf8 c =
    if c == 0x22 then codes "&quot;"
    else if c == 0x26 then codes "&amp;"
    else if c == 0x3C then codes "&lt;"
    else if c == 0x3E then codes "&gt;"
    else if c == 0x0A && has_lines then c ∷ []
    else if nat_lt c 0x20 || c == 0x7F || (nat_lt 0x7F c && not is_utf8) then codes "?"
    else c ∷ []

-- a byte that neither begins nor ends a tag or the value of an attribute
abbrev pub is_plain : ℕ → Bool
is_plain c = not (c == 0x3C) && not (c == 0x3E) && not (c == 0x22)

-- no text, whatever its bytes are, begins or ends a tag or the value of an attribute
abbrev pub TextsArePlain : Type 0
TextsArePlain = (has_lines is_utf8 : Bool) (text : List ℕ) → list_all is_plain (flat_map (markup_byte has_lines is_utf8) text) ≡ true

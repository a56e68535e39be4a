-- What a terminal is given of a text. Control characters are those of ECMA-48, 5th edition, sections 5.2 (C0) and 5.3 (C1), and DEL;
-- characters of more than one byte are those of UTF-8, RFC 3629, section 4.
use Rattle.std.specs.Prelude.{ℕ, ◌-◌, ◌==◌, nat_lt, nat_le, Bool, ◌&&◌, ◌||◌, List, [], ◌∷◌, if◌then◌else◌}
use Rattle.a2_shown.specs.declared.shown.Character.{Character}

-- how many bytes follow the first byte of a character
abbrev pub following : ℕ → ℕ
following byte =
    if nat_le 0xC2 byte && nat_le byte 0xDF then 1
    else if nat_le 0xE0 byte && nat_le byte 0xEF then 2
    else if nat_le 0xF0 byte && nat_le byte 0xF4 then 3
    else 0

-- the least byte that may follow: after $C2, bytes below $A0 are the control characters of C1
abbrev pub least_after : ℕ → ℕ
least_after byte = if byte == 0xC2 then 0xA0 else 0x80

-- outside characters of several bytes
abbrev pub outside : Character
outside = record { more = 0; least = 0x80 }

-- whether a byte continues the character that is begun
abbrev pub continues : Character → ℕ → Bool
continues character byte = nat_lt 0 character.more && nat_le 0x80 byte && nat_le byte 0xBF && nat_le character.least byte

-- printable, or the end of a line or a tab, or a byte of a character of several
abbrev pub is_plain : ℕ → Bool
is_plain byte = byte == 9 || byte == 10 || nat_le 32 byte && nat_le byte 126

abbrev pub is_shown : Character → ℕ → Bool
is_shown character byte = is_plain byte || nat_lt 0 (following byte) || continues character byte

-- a byte as it is shown: itself or `?`
abbrev pub shown : Character → ℕ → ℕ
shown character byte = if is_shown character byte then byte else 0x3F

-- where characters are after a byte
abbrev pub after : Character → ℕ → Character
after character byte =
    if continues character byte then record { more = character.more - 1; least = 0x80 }
    else record { more = following byte; least = least_after byte }

-- the bytes of a text as they are shown, and where characters are after it
abbrev pub shown_text : Character → List ℕ → List ℕ
shown_text character [] = []
shown_text character (byte ∷ bytes) = shown character byte ∷ shown_text (after character byte) bytes

abbrev pub after_text : Character → List ℕ → Character
after_text character [] = character
after_text character (byte ∷ bytes) = after_text (after character byte) bytes

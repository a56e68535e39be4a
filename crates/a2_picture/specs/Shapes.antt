-- The shapes of the characters, this project's own. `tests/picture-tables --write` writes this file from data/font.txt.
use Rattle.std.specs.Prelude.{ℕ, ◌+◌, ◌*◌, ◌/◌, ◌%◌, ◌^◌, ◌==◌, Bool, List, [], ◌∷◌, slice_index}

-- the shape of each character, in the order of a byte's low six bits: bit 8 * R + C is the dot in column C of row R
unfoldable pub shapes : List ℕ
shapes =
    0x3C021A3A2A221C
    ∷ 0x22223E22221408
    ∷ 0x1E22221E22221E
    ∷ 0x1C22020202221C
    ∷ 0x1E22222222221E
    ∷ 0x3E02021E02023E
    ∷ 0x202021E02023E
    ∷ 0x3C22223A02221C
    ∷ 0x2222223E222222
    ∷ 0x1C08080808081C
    ∷ 0xC121010101038
    ∷ 0x22120A060A1222
    ∷ 0x3E020202020202
    ∷ 0x2222222A2A3622
    ∷ 0x2222322A262222
    ∷ 0x1C22222222221C
    ∷ 0x202021E22221E
    ∷ 0x2C122A2222221C
    ∷ 0x22120A1E22221E
    ∷ 0x1E20201C02023C
    ∷ 0x808080808083E
    ∷ 0x1C222222222222
    ∷ 0x8142222222222
    ∷ 0x142A2A2A222222
    ∷ 0x22221408142222
    ∷ 0x8080814222222
    ∷ 0x3E02040810203E
    ∷ 0x1C04040404041C
    ∷ 0x201008040200
    ∷ 0x1C10101010101C
    ∷ 0x221408
    ∷ 0x3E000000000000
    ∷ 0x0
    ∷ 0x8000808080808
    ∷ 0x141414
    ∷ 0x14143E143E1414
    ∷ 0x81E281C0A3C08
    ∷ 0x30320408102606
    ∷ 0x2C122A040A0A04
    ∷ 0x80808
    ∷ 0x10080404040810
    ∷ 0x4081010100804
    ∷ 0x82A1C3E1C2A08
    ∷ 0x8083E080800
    ∷ 0x4080C00000000
    ∷ 0x3E000000
    ∷ 0xC0C0000000000
    ∷ 0x20408102000
    ∷ 0x1C22262A32221C
    ∷ 0x1C080808080C08
    ∷ 0x3E04081020221C
    ∷ 0x1C22201008103E
    ∷ 0x10103E12141810
    ∷ 0x1C2220201E023E
    ∷ 0x1C22221E020418
    ∷ 0x404040810203E
    ∷ 0x1C22221C22221C
    ∷ 0xC10203C22221C
    ∷ 0xC0C000C0C00
    ∷ 0x4080C000C0C00
    ∷ 0x10080402040810
    ∷ 0x3E003E0000
    ∷ 0x4081020100804
    ∷ 0x800081020221C
    ∷ []

-- whether a dot is part of a shape
unfoldable pub is_shape_dot : ℕ → ℕ → ℕ → Bool
is_shape_dot bits line column = slice_index shapes bits / 2 ^ (8 * line + column) % 2 == 1

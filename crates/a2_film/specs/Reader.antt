-- A reader of a film's rows, in the form that the manual describes. This project's profile.
use Rattle.std.specs.Prelude.{ℕ, zero, suc, ◌+◌, ◌==◌, if◌then◌else◌, List, [], ◌∷◌, length, take, drop, get_or, Option, Some}
use Rattle.std.specs.Prelude.{None}
use Rattle.std.specs.List.{prefix_len}
use Rattle.std.specs.Char.{is_digit}
use Rattle.std.specs.Str.Parse.{digits_value}
use Rattle.a2_film.specs.Changes.{Store, Change}

-- the first byte; an empty text is at a line's end
abbrev pub first : List ℕ → ℕ
first text = get_or text 0 0x0A

-- the number with these hexadecimal digits
abbrev pub hex_number : ℕ → List ℕ → ℕ
hex_number count text = digits_value 16 (take count text)

-- how many decimal digits are at the beginning, and their number
abbrev pub digit_count : List ℕ → ℕ
digit_count text = prefix_len (λ c. is_digit c 10) text

abbrev pub decimal_number : List ℕ → ℕ
decimal_number text = digits_value 10 (take (digit_count text) text)

-- the number of so many hexadecimal digits after a letter, if that is the first byte; and what follows
abbrev pub field : ℕ → ℕ → List ℕ → Option ℕ × List ℕ
field letter count text =
    if first text == letter then (Some (hex_number count (drop 1 text)), drop (count + 1) text) else (None, text)

-- how many keys were taken, and what follows
abbrev pub keys_field : List ℕ → ℕ × List ℕ
keys_field text =
    if first text == 0x6B then (decimal_number (drop 1 text), drop (digit_count (drop 1 text)) (drop 1 text)) else (0, text)

-- at most so many keys, each with t before it, and what follows
unfoldable pub typed_field : ℕ → List ℕ → List ℕ × List ℕ
typed_field zero text = ([], text)
typed_field (suc most) text =
    if first text == 0x74 then
    (let rest = typed_field most (drop 3 text) in (hex_number 2 (drop 1 text) ∷ rest.0, rest.1))
    else ([], text)

-- at most so many stores, up to the line's end, if the next address is known; and what follows the line
unfoldable pub stores_field : ℕ → ℕ → List ℕ → List Store × List ℕ
stores_field zero next text = ([], text)
stores_field (suc most) next text =
    if first text == 0x0A then ([], drop 1 text)
    else if first text == 0x6D then
    (let rest = stores_field most (hex_number 4 (drop 1 text) + 1) (drop 7 text) in
    ((hex_number 4 (drop 1 text), hex_number 2 (drop 5 text)) ∷ rest.0, rest.1))
    else (let rest = stores_field most (next + 1) (drop 2 text) in ((next, hex_number 2 text) ∷ rest.0, rest.1))

-- a row, and what follows its line
unfoldable pub read_row : List ℕ → Change × List ℕ
read_row text =
    let numbers = drop 4 text in
    let a = field 0x61 2 (drop (digit_count numbers) numbers) in
    let x = field 0x78 2 a.1 in
    let y = field 0x79 2 x.1 in
    let s = field 0x73 2 y.1 in
    let p = field 0x70 2 s.1 in
    let switches = field 0x77 1 p.1 in
    let keys = keys_field switches.1 in
    let typed = typed_field (length text) keys.1 in
    let stores = stores_field (length text) 0x10000 typed.1 in (
      record {
        pc = hex_number 4 text;
        cycles = decimal_number numbers;
        a = a.0;
        x = x.0;
        y = y.0;
        s = s.0;
        p = p.0;
        switches = switches.0;
        keys = keys.0;
        typed = typed.0;
        stores = stores.0;
      },
      stores.1,
    )

-- at most so many rows
unfoldable pub read_rows : ℕ → List ℕ → List Change
read_rows zero text = []
read_rows (suc most) [] = []
read_rows (suc most) (c ∷ text) = let found = read_row (c ∷ text) in found.0 ∷ read_rows most found.1

-- the rows of a text
abbrev pub rows_of : List ℕ → List Change
rows_of text = read_rows (length text) text

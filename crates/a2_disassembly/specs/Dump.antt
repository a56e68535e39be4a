-- The lines of a dump: what the Monitor printed, and what was typed between. Apple II Reference Manual (1979), chapter 3.
use Rattle.std.specs.Prelude.{ℕ, ◌==◌, Bool, not, ◌&&◌, ◌||◌, List, ◌∷◌, [], ◌++◌, drop, get_or, codes, if◌then◌else◌}
use Rattle.std.specs.List.{prefix_len, flat_map, list_any, list_all}
use Rattle.a2_text.specs.Bytes.{is_blank, is_among}
use Rattle.a2_text.specs.Lines.{lines}
use Rattle.a2_text.specs.Signs.{sign}

-- a byte of a command that prints, lists or runs: a hexadecimal digit, `.`, or a letter
abbrev pub is_command_byte : ℕ → Bool
is_command_byte c = is_among (codes "0123456789ABCDEFabcdef.GLST") c

-- a byte that can be before a line: the Monitor's prompt, or a blank
abbrev pub is_prompt : ℕ → Bool
is_prompt c = c == sign "*" || is_blank c

-- a line after the prompts before it
abbrev pub after_prompt : List ℕ → List ℕ
after_prompt line = drop (prefix_len is_prompt line) line

-- whether a line has a byte
abbrev pub has : ℕ → List ℕ → Bool
has byte line = list_any (λ c. c == byte) line

-- a line begins with a byte
abbrev pub begins : ℕ → List ℕ → Bool
begins byte line = get_or line 0 0 == byte

-- a line without bytes to load: a comment, a line of Basic, registers, or a command that does not store
abbrev pub is_remark : List ℕ → Bool
is_remark line =
    begins (sign ";") (after_prompt line) || begins (sign "]") (after_prompt line) || has (sign "=") line
    || (not (has (sign ":") line || has (sign "-") line) && (begins (sign "*") line || list_all is_command_byte line))

-- the row of a listing that is in a line; nothing if the line is a remark
abbrev pub dump_line : List ℕ → List ℕ
dump_line line = if is_remark line then [] else after_prompt line

abbrev pub dump_row : List ℕ → List ℕ
dump_row line = dump_line line ++ (10 ∷ [])

-- the listing that is in a dump, with an empty line for each remark
abbrev pub dump_rows : List ℕ → List ℕ
dump_rows text = flat_map dump_row (lines text)

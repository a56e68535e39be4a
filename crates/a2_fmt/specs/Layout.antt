-- A line in columns. This project's profile.
use Rattle.std.specs.Prelude.{ℕ, ◌-◌, Bool, not, ◌&&◌, ◌||◌, ◌==◌, max, nat_le, List, ◌++◌, length, take, drop, map, get_or, None, codes, false, if◌then◌else◌}
use Rattle.std.specs.List.{prefix_len, suffix_len, flat_map}
use Rattle.std.specs.Char.{is_ascii_whitespace}
use Rattle.std.specs.Str.{str_eq_ignore_ascii_case}
use Rattle.a2_text.specs.Bytes.{is_blank, capital}
use Rattle.a2_text.specs.Lines.{lines}
use Rattle.a2_text.specs.Signs.{sign}
use Rattle.a2_text.specs.Words.{after_blanks}
use Rattle.a2_fmt.specs.Operand.{comment_at, tidied}

-- a byte that can be part of a word: neither a blank nor the `;` of a comment
abbrev pub is_word_part : ℕ → Bool
is_word_part c = not (is_blank c) && not (c == sign ";")

-- the word at the beginning of a text
abbrev pub word : List ℕ → List ℕ
word text = take (prefix_len is_word_part text) text

abbrev pub after_word : List ℕ → List ℕ
after_word text = drop (prefix_len is_word_part text) text

-- a text without the white space at its end
abbrev pub trimmed : List ℕ → List ℕ
trimmed text = take (length text - suffix_len is_ascii_whitespace text) text

-- blanks up to a column, counted from 0, at least one
abbrev pub padded : ℕ → List ℕ → List ℕ
padded column front = front ++ take (max (column - length front) 1) (codes "                            ")

-- an operation in capitals, in its column
abbrev pub with_word : List ℕ → List ℕ → List ℕ
with_word front operation = if length operation == 0 then front else padded 8 front ++ map capital operation

-- the directives that take a list
abbrev pub takes_list : List ℕ → Bool
takes_list operation = str_eq_ignore_ascii_case operation (codes "DFB") || str_eq_ignore_ascii_case operation (codes "DW")

-- an operand; outside lists, the letter of a register can follow a comma
abbrev pub operand_text : List ℕ → List ℕ → List ℕ
operand_text operation operand =
    if str_eq_ignore_ascii_case operand (codes "A") then codes "A" else tidied (not (takes_list operation)) None false operand

-- an operand in its column
abbrev pub with_operand : List ℕ → List ℕ → List ℕ → List ℕ
with_operand front operation operand = if length operand == 0 then front else padded 12 front ++ operand_text operation operand

-- the text before a comment: empty if the comment begins the line; up to the column of operations if the comment is alone;
-- otherwise up to the column of comments
abbrev pub before_comment : List ℕ → List ℕ → List ℕ
before_comment line front = if get_or line 0 0 == sign ";" then front else padded (if length front == 0 then 8 else 28) front

abbrev pub with_comment : List ℕ → List ℕ → List ℕ → List ℕ
with_comment line front comment = if length comment == 0 then front else before_comment line front ++ comment

-- the operation of a line
abbrev pub operation : List ℕ → List ℕ
operation line = word (after_blanks (after_word line))

abbrev pub after_operation : List ℕ → List ℕ
after_operation line = after_blanks (after_word (after_blanks (after_word line)))

-- a statement: its label, operation, operand and comment
abbrev pub statement : List ℕ → List ℕ
statement line =
    with_comment line
    (with_operand (with_word (word line) (operation line)) (operation line) (trimmed (take (comment_at None (after_operation line)) (after_operation line))))
    (trimmed (drop (comment_at None (after_operation line)) (after_operation line)))

-- a line of any length; a line that begins with `*` is a comment
abbrev pub any : List ℕ → List ℕ
any line = if get_or line 0 0 == sign "*" then trimmed line else statement line

-- a line in columns, or unchanged if the result would be too long
abbrev pub fitting : List ℕ → List ℕ
fitting line = if nat_le (length (any line)) 255 then any line else line

abbrev pub row : List ℕ → List ℕ
row line = fitting line ++ codes "\n"

-- a text in columns
abbrev pub laid : List ℕ → List ℕ
laid text = flat_map row (lines text)

-- a part of a line in its column, as it is written
abbrev pub with_part : ℕ → List ℕ → List ℕ → List ℕ
with_part column front part = if length part == 0 then front else padded column front ++ part

-- a comment after the other parts of a line, or alone in the column of operations
abbrev pub with_remark : List ℕ → List ℕ → List ℕ
with_remark front comment = with_part (if length front == 0 then 8 else 28) front comment

-- the parts of a line in their columns, each as it is written
abbrev pub spread : List ℕ → List ℕ → List ℕ → List ℕ → List ℕ
spread label operation operand comment = with_remark (with_part 12 (with_part 8 label operation) operand) comment

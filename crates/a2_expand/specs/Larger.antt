-- Which lines use the larger language. This project's own.
use Rattle.std.specs.Prelude.{ℕ, ◌+◌, Bool, true, false, not, ◌&&◌, ◌||◌, ◌==◌, List, [], ◌∷◌, take, drop, get_or, codes, Option, Some, None, is_none, if◌then◌else◌}
use Rattle.std.specs.List.{prefix_len, list_any}
use Rattle.std.specs.Str.{str_eq_ignore_ascii_case}
use Rattle.a2_text.specs.Bytes.{is_among, is_between, is_blank}
use Rattle.a2_text.specs.Lines.{lines}
use Rattle.a2_text.specs.Signs.{sign}
use Rattle.a2_text.specs.Words.{after_blanks}

-- a byte that can be part of a word: neither a blank nor the `;` of a comment
abbrev pub is_word_part : ℕ → Bool
is_word_part c = not (is_blank c) && not (c == sign ";")

-- the word at the beginning of a text, and the text after it
abbrev pub word : List ℕ → List ℕ
word text = take (prefix_len is_word_part text) text

abbrev pub after_word : List ℕ → List ℕ
after_word text = drop (prefix_len is_word_part text) text

-- the operation of a line, and its operand with the comment
abbrev pub operation : List ℕ → List ℕ
operation line = word (after_blanks (after_word line))

abbrev pub after_operation : List ℕ → List ℕ
after_operation line = after_blanks (after_word (after_blanks (after_word line)))

-- the operations of the larger language, in upper or lower case
abbrev pub is_data_word : List ℕ → Bool
is_data_word w =
    str_eq_ignore_ascii_case w (codes "INV") || str_eq_ignore_ascii_case w (codes "FLS")
    || str_eq_ignore_ascii_case w (codes "STR")

abbrev pub is_condition_word : List ℕ → Bool
is_condition_word w =
    str_eq_ignore_ascii_case w (codes "IF") || str_eq_ignore_ascii_case w (codes "ELSEIF") || str_eq_ignore_ascii_case w (codes "ELSE")
    || str_eq_ignore_ascii_case w (codes "ENDIF")

abbrev pub is_block_word : List ℕ → Bool
is_block_word w =
    str_eq_ignore_ascii_case w (codes "MACRO") || str_eq_ignore_ascii_case w (codes "ENDMACRO") || str_eq_ignore_ascii_case w (codes "REPEAT")
    || str_eq_ignore_ascii_case w (codes "ENDREPEAT") || str_eq_ignore_ascii_case w (codes "PROC") || str_eq_ignore_ascii_case w (codes "ENDPROC")

abbrev pub is_table_word : List ℕ → Bool
is_table_word w =
    str_eq_ignore_ascii_case w (codes "ENUM") || str_eq_ignore_ascii_case w (codes "ENDENUM") || str_eq_ignore_ascii_case w (codes "STRUCT")
    || str_eq_ignore_ascii_case w (codes "ENDSTRUCT")

abbrev pub is_message_word : List ℕ → Bool
is_message_word w =
    str_eq_ignore_ascii_case w (codes "ASSERT") || str_eq_ignore_ascii_case w (codes "ERROR") || str_eq_ignore_ascii_case w (codes "WARN")
    || str_eq_ignore_ascii_case w (codes "INCLUDE") || str_eq_ignore_ascii_case w (codes "INCBIN")

abbrev pub is_larger_word : List ℕ → Bool
is_larger_word w = is_data_word w || is_condition_word w || is_block_word w || is_table_word w || is_message_word w

-- a byte of a name or a number
abbrev pub is_run_byte : ℕ → Bool
is_run_byte c = is_between 48 57 c || is_between 65 90 c || is_between 97 122 c || c == sign "_"

-- the quote that is open after a byte, given the one that is open before it
abbrev pub quote_after : Option ℕ → ℕ → Option ℕ
quote_after None c = if is_among (codes "'\"") c then Some c else None
quote_after (Some same) c = if c == same then None else Some same

-- a byte that can end a term of an expression
abbrev pub ends_term : ℕ → Bool
ends_term c = is_run_byte c || is_among (codes ")'\"*") c

-- a sign that the plain language does not have after `last`, the byte before it that is not a blank, or 0 at the beginning of the operand
abbrev pub is_larger_sign : ℕ → ℕ → Bool
is_larger_sign last c =
    is_among (codes "/&|^~.:") c
    || (is_among (codes "*%") c && ends_term last)
    || (is_among (codes "<>") c && (ends_term last || is_among (codes "<>") last))
    || (c == sign "-" && not (ends_term last))
    || (c == sign "(" && not (last == 0))
    || (is_among (codes "+-") c && last == sign ")")

-- whether an operand has such a sign outside quotes, or, if `commas`, a comma
abbrev pub has_larger_sign : Bool → Option ℕ → ℕ → List ℕ → Bool
has_larger_sign commas quote last [] = false
has_larger_sign commas (Some same) last (c ∷ cs) = has_larger_sign commas (quote_after (Some same) c) c cs
has_larger_sign commas None last (c ∷ cs) =
    if c == sign ";" then false else
    if is_blank c then has_larger_sign commas None last cs else
    if is_larger_sign last c || (commas && c == sign ",") then true else
    has_larger_sign commas (quote_after None c) c cs

-- whether a byte closes a text in quotes that is not one character; `count` of its characters are read
abbrev pub closes_text : Option ℕ → ℕ → ℕ → Bool
closes_text None count c = false
closes_text (Some same) count c = c == same && not (count == 1)

-- how many characters of a text are read after a byte
abbrev pub count_after : Option ℕ → ℕ → ℕ
count_after None count = 0
count_after (Some same) count = count + 1

-- whether an operand has a text in quotes that is not one character
abbrev pub has_text : Option ℕ → ℕ → List ℕ → Bool
has_text quote count [] = false
has_text quote count (c ∷ cs) =
    if is_none quote && c == sign ";" then false else
    if closes_text quote count c then true else
    has_text (quote_after quote c) (count_after quote count) cs

abbrev pub is_named : List ℕ → List ℕ → Bool
is_named name w = str_eq_ignore_ascii_case w name

-- whether a statement uses the larger language: a local label, an operation, or a form of an operand
abbrev pub is_larger_statement : List ℕ → Bool
is_larger_statement line =
    is_among (codes ".:") (get_or line 0 0)
    || is_larger_word (operation line)
    || has_larger_sign (is_named (codes "DS") (operation line)) None 0 (after_operation line)
    || (is_named (codes "DFB") (operation line) && has_text None 0 (after_operation line))

-- whether a line uses the larger language; a line that begins with `*` is a comment
abbrev pub is_larger_line : List ℕ → Bool
is_larger_line line = if get_or line 0 0 == sign "*" then false else is_larger_statement line

-- whether the operation of a line is one of the larger language; a line that begins with `*` is a comment
abbrev pub has_larger_word : List ℕ → Bool
has_larger_word line = if get_or line 0 0 == sign "*" then false else is_larger_word (operation line)

-- whether the operation of a line of a text is one of the larger language
unfoldable pub uses_larger_operation : List ℕ → Bool
uses_larger_operation text = list_any has_larger_word (lines text)

-- whether no line of a text uses the larger language
unfoldable pub uses_nothing_larger : List ℕ → Bool
uses_nothing_larger text = not (list_any is_larger_line (lines text))

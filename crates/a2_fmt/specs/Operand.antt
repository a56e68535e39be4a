-- The text after an operation: its operand and a comment. This project's profile.
use Rattle.std.specs.Prelude.{ℕ, ◌+◌, Bool, false, ◌&&◌, ◌||◌, ◌==◌, List, [], ◌∷◌, Option, Some, None, is_none, if◌then◌else◌}
use Rattle.a2_text.specs.Bytes.{is_blank, capital}
use Rattle.a2_text.specs.Signs.{sign}
use Rattle.a2_syntax.specs.Names.{is_name_byte}
use Rattle.a2_syntax.specs.Numbers.{is_quote}

-- the quote that is open after a byte, given the one that is open before it
abbrev pub quote_after : Option ℕ → ℕ → Option ℕ
quote_after None c = if is_quote c then Some c else None
quote_after (Some same) c = if c == same then None else Some same

-- the number of bytes before the first `;` outside quotes
abbrev pub comment_at : Option ℕ → List ℕ → ℕ
comment_at quote [] = 0
comment_at quote (c ∷ cs) = if is_none quote && c == sign ";" then 0 else 1 + comment_at (quote_after quote c) cs

-- whether letters after a byte outside quotes become capitals: those of a number after `$`, and, where the letter of a register
-- can occur, those after a comma
abbrev pub makes_capital : Bool → Bool → ℕ → Bool
makes_capital indexed raised c = c == sign "$" || (indexed && c == sign ",") || (raised && is_name_byte c)

-- an operand in its final form: without blanks outside quotes, and with these letters as capitals
abbrev pub tidied : Bool → Option ℕ → Bool → List ℕ → List ℕ
tidied indexed quote raised [] = []
tidied indexed (Some same) raised (c ∷ cs) = c ∷ tidied indexed (quote_after (Some same) c) false cs
tidied indexed None raised (c ∷ cs) =
    if is_blank c then tidied indexed None raised cs
    else (if raised then capital c else c) ∷ tidied indexed (quote_after None c) (makes_capital indexed raised c) cs

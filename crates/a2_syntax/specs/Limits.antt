-- The limits of a source text. This project's profile.
use Rattle.std.specs.Prelude.{ℕ, nat_lt, List, length, Option}
use Rattle.a2_text.specs.Lines.{lines}
use Rattle.a2_text.specs.FirstError.{◌otherwise◌, error_if, first_line_error}
use Rattle.a2_syntax.specs.declared.fault.Fault.{Fault}
use Rattle.a2_syntax.specs.declared.fault.Fault.TheVariants.{TooLarge}

-- a line must not have more than 255 bytes
abbrev pub long_line_error : ℕ → List ℕ → Option Fault
long_line_error n line = error_if (nat_lt 255 (length line)) (TooLarge n)

-- the error of a text that is too large: more than 65,536 bytes, otherwise more than 4,096 lines, otherwise the first
-- line that is too long
abbrev pub size_error : List ℕ → Option Fault
size_error text =
    error_if (nat_lt 65536 (length text)) (TooLarge 0) otherwise
    error_if (nat_lt 4096 (length (lines text))) (TooLarge 4097) otherwise
    first_line_error long_line_error 1 (lines text)

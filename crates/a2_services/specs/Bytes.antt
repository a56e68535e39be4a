-- Bytes and keys with a special meaning in the Monitor. Apple II Reference Manual (1979), chapter 2, on standard output,
-- standard input and GETLN.
use Rattle.std.specs.Prelude.{ℕ}

abbrev pub carriage_return : ℕ
carriage_return = 0x8D

abbrev pub line_feed : ℕ
line_feed = 0x8A

abbrev pub backspace : ℕ
backspace = 0x88

-- control X, which cancels a line, and the backslash that is shown then
abbrev pub cancel : ℕ
cancel = 0x98

abbrev pub backslash : ℕ
backslash = 0xDC

abbrev pub return_key : ℕ
return_key = 0x0D

abbrev pub right_arrow_key : ℕ
right_arrow_key = 0x15

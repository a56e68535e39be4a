-- The addresses that arguments give. This project's profile.
use Rattle.std.specs.Prelude.{ℕ, ◌+◌, ◌==◌, not, nat_le, nat_lt, List, [], ◌∷◌, take, drop, if◌then◌else◌, Option, Some, None}
use Rattle.std.specs.List.{prefix_len}
use Rattle.a2_text.specs.Signs.{sign}
use Rattle.a2_text.specs.Bytes.{is_digit, number_in}
use Rattle.a2_syntax.specs.Names.{is_name}
use Rattle.a2_asm.specs.declared.program.Statement.{Statement}
use Rattle.a2_asm.specs.Assembled.{Assembled}
use Rattle.a2_asm.specs.Values.{name_value}
use Rattle.a2_symbols.specs.declared.places.Span.{Span}
use Rattle.a2_symbols.specs.Statements.{instruction_on}

-- the address of the instruction on a line
abbrev pub address_on : List Statement → ℕ → Option ℕ
address_on statements n = elim (instruction_on statements n) [ None ↦ None | Some s ↦ Some s.addr ]

abbrev pub address_on_line : List Statement → Option ℕ → Option ℕ
address_on_line statements None = None
address_on_line statements (Some number) = address_on statements number

-- a number: $ and 1 to 4 hexadecimal digits, or 1 to 5 decimal ones
unfoldable pub number_of : List ℕ → Option ℕ
number_of [] = None
number_of (c ∷ cs) = if c == sign "$" then number_in 16 4 cs else number_in 10 5 (c ∷ cs)

-- the number of characters before the first occurrence of this one
abbrev pub length_before : ℕ → List ℕ → ℕ
length_before sign word = prefix_len (λ c. not (c == sign)) word

-- the number of a line: 1 to 5 decimal digits, which a colon may follow
abbrev pub line_by : List ℕ → List ℕ → Option ℕ
line_by digits [] = number_in 10 5 digits
line_by digits (colon ∷ []) = number_in 10 5 digits
line_by digits (colon ∷ next ∷ more) = None

unfoldable pub line_of : List ℕ → Option ℕ
line_of word = let n = length_before (sign ":") word in line_by (take n word) (drop n word)

-- $ and 1 to 4 hexadecimal digits; the number of a line with an instruction; or a name
unfoldable pub base_of : Assembled → List ℕ → Option ℕ
base_of program [] = None
base_of program (c ∷ cs) =
    if c == sign "$" then number_in 16 4 cs
    else if is_digit c then address_on_line program.statements (line_of (c ∷ cs))
    else if is_name (c ∷ cs) then name_value program.names (c ∷ cs)
    else None

-- the address this many bytes further, if there is one
abbrev pub further : ℕ → Option ℕ → Option ℕ
further address None = None
further address (Some count) = if nat_lt (address + count) 65536 then Some (address + count) else None

abbrev pub with_offset : List ℕ → Option ℕ → Option ℕ
with_offset [] base = base
with_offset (plus ∷ count) None = None
with_offset (plus ∷ count) (Some address) = further address (number_of count)

-- one of these, which + and a number may follow
unfoldable pub place_of : Assembled → List ℕ → Option ℕ
place_of program word =
    let n = length_before (sign "+") word in with_offset (drop n word) (base_of program (take n word))

-- the addresses from one to another, which is not below the first
abbrev pub spanned : Option ℕ → Option ℕ → Option Span
spanned None last = None
spanned (Some first) None = None
spanned (Some first) (Some last) = if nat_le first last then Some (record { first = first; last = last }) else None

abbrev pub span_by : Assembled → Option ℕ → List ℕ → Option Span
span_by program first [] = spanned first first
span_by program first (dot ∷ []) = None
span_by program first (dot ∷ next ∷ last) = if next == sign "." then spanned first (place_of program last) else None

-- one place, or two with .. between them
unfoldable pub span_of : Assembled → List ℕ → Option Span
span_of program word =
    let n = length_before (sign ".") word in span_by program (place_of program (take n word)) (drop n word)

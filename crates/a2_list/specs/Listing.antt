-- What a listing shows: the lines of a source with the addresses and bytes of their statements, and the cycles of their
-- instructions if these are asked for; and the names with their values, or with the lines that use them. This project's profile.
use Rattle.std.specs.Prelude.{◌≡◌, ℕ, zero, suc, ◌+◌, ◌-◌, ◌/◌, ◌==◌, ◌||◌, min, Bool, true, false, List, [], ◌∷◌, ◌++◌, length, codes, Option, Some, None, is_some, if◌then◌else◌}
use Rattle.std.specs.List.{concat, flat_map}
use Rattle.std.specs.Option.{option_and_then}
use Rattle.std.specs.Fmt.{decimal}
use Rattle.a2_text.specs.Digits.{hex_word}
use Rattle.a2_text.specs.Lines.{lines}
use Rattle.a2_hex.specs.Images.{held}
use Rattle.a2_hex.specs.ObjectText.{after_blank, run}
use Rattle.a2_opcode.specs.declared.Mode.{Mode}
use Rattle.a2_opcode.specs.declared.Mode.TheVariants.{Relative}
use Rattle.a2_opcode.specs.declared.Row.{Row}
use Rattle.a2_opcode.specs.Table.{row}
use Rattle.a2_syntax.specs.Bare.{BareLine}
use Rattle.a2_syntax.specs.Sources.{IsSource}
use Rattle.a2_asm.specs.declared.program.Statement.{Statement}
use Rattle.a2_asm.specs.Assembled.{Assembled}
use Rattle.a2_asm.specs.Values.{Names}
use Rattle.a2_run.specs.Meaning.{IsProgramOf}
use Rattle.a2_list.specs.declared.listing.Shown.{Shown}
use Rattle.a2_list.specs.Blanks.{blanks}
use Rattle.a2_list.specs.NameTable.{AreInOrder, use_table}

-- an address, `-`, and after it the bytes from there upwards to the first gap, but at most n, as `0300-   A9 C1`
unfoldable pub columns : (ℕ → Option ℕ) → ℕ → ℕ → List ℕ
columns byte_at a n = hex_word a ++ (codes "-  " ++ flat_map after_blank (run byte_at a n))

-- the same for the first three bytes of a statement; nothing if there is none
abbrev pub first_columns : (ℕ → Option ℕ) → Option Statement → List ℕ
first_columns byte_at None = []
first_columns byte_at (Some s) = columns byte_at s.addr (min s.length 3)

-- two blanks, if a text follows them
abbrev pub before_text : List ℕ → List ℕ
before_text text = if length text == 0 then [] else codes "  "

abbrev pub is_branch : Mode → Bool
is_branch Relative = true
is_branch mode = false

-- the row of the opcode table of a statement that is an instruction
abbrev pub row_in : Option Statement → Option Row
row_in statement = option_and_then (λ s. option_and_then (λ i. row i.mnemonic i.mode) s.instr) statement

-- `+` if a row may take more cycles: one if an index reaches into another page, one or two if a branch is taken. MCS6500
-- Programming Manual, appendix B
abbrev pub mark_of : Row → List ℕ
mark_of r = if r.crosses || is_branch r.mode then codes "+" else []

abbrev pub cycles_of : Option Row → List ℕ
cycles_of None = []
cycles_of (Some r) = decimal r.cycles ++ mark_of r

-- the cell of a statement's cycles, which begins in column 19 of a row, after so many bytes; nothing if cycles are not asked for
abbrev pub cycles_cell : Bool → ℕ → Option Statement → List ℕ
cycles_cell false used statement = []
cycles_cell true used statement = blanks (18 - used) ++ cycles_of (row_in statement)

-- the row of a line with its statement: the columns, the line's number, which ends in column 23, or in column 27 if the cycles are
-- before it, and the line as it was written
unfoldable pub first_row : Bool → (ℕ → Option ℕ) → Option Statement → ℕ → List ℕ → List ℕ
first_row cycles byte_at statement n text =
    let front = first_columns byte_at statement in
    let cell = cycles_cell cycles (length front) statement in
    let width = (if cycles then 27 else 23) - (length front + length cell) in
    concat (front ∷ cell ∷ blanks (width - length (decimal n)) ∷ decimal n ∷ before_text text ∷ text ∷ codes "\n" ∷ [])

-- the row of bytes after the first three of a statement
unfoldable pub bytes_row : List ℕ → List ℕ
bytes_row front = concat (front ∷ codes "\n" ∷ [])

-- so many rows after that of the first three of n bytes at an address: three bytes each, and none after a gap
abbrev pub more_rows : (ℕ → Option ℕ) → ℕ → ℕ → ℕ → List ℕ
more_rows byte_at a n zero = []
more_rows byte_at a n (suc rows) =
    if is_some (byte_at a) then bytes_row (columns byte_at (a + 3) (min (n - 3) 3)) ++ more_rows byte_at (a + 3) (n - 3) rows else []

-- the rows of a statement's bytes after its first three
abbrev pub further_rows : (ℕ → Option ℕ) → Option Statement → List ℕ
further_rows byte_at None = []
further_rows byte_at (Some s) = more_rows byte_at s.addr s.length ((s.length - 1) / 3)

-- all rows of the line with a number
abbrev pub rows_of_line : Bool → (ℕ → Option ℕ) → Option Statement → ℕ → List ℕ → List ℕ
rows_of_line cycles byte_at statement n text = first_row cycles byte_at statement n text ++ further_rows byte_at statement

-- the statement of a line, from its statements and those of later lines
abbrev pub statement_of_line : ℕ → List Statement → Option Statement
statement_of_line n [] = None
statement_of_line n (s ∷ others) = if s.line == n then Some s else None

-- the statements of later lines
abbrev pub rows_after_line : ℕ → List Statement → List Statement
rows_after_line n [] = []
rows_after_line n (s ∷ others) = if s.line == n then others else s ∷ others

-- the rows of lines, from the line with a number on
abbrev pub listing_rows : Bool → (ℕ → Option ℕ) → List Statement → ℕ → List (List ℕ) → List ℕ
listing_rows cycles byte_at statements n [] = []
listing_rows cycles byte_at statements n (text ∷ texts) =
    rows_of_line cycles byte_at (statement_of_line n statements) n text ++ listing_rows cycles byte_at (rows_after_line n statements) (n + 1) texts

-- the row of a name, as `FDED  COUT`
unfoldable pub name_row : List ℕ → List ℕ → List ℕ
name_row digits name = concat (digits ∷ codes "  " ∷ name ∷ codes "\n" ∷ [])

-- the names with their values, in the order of the lines that define them
abbrev pub name_rows : Names → List ℕ
name_rows names = flat_map (λ entry. name_row (hex_word entry.1) entry.0) names

-- the rows of all lines, and an empty line
abbrev pub rows_and_gap : Bool → Assembled → List (List ℕ) → List ℕ
rows_and_gap cycles program texts = listing_rows cycles (held program.image) program.statements 1 texts ++ codes "\n"

-- the names of a text's program: in the order of the lines that define them; or in the order of their bytes, with the lines of the
-- source that use them
abbrev pub IsTable : Bool → List ℕ → Names → List ℕ → Type 0
IsTable false text names table = table ≡ name_rows names
IsTable true text names table =
    (source : List BareLine) × (order : List (List ℕ)) × IsSource text source × AreInOrder names order × (table ≡ use_table names source order)

-- the listing of a text without errors: the rows of all lines, an empty line, and the names
pub record IsListing (shown : Shown) (text output : List ℕ) : Type 0 where
  pub program : Assembled
  pub is_program : IsProgramOf text program
  pub table : List ℕ
  pub is_table : IsTable shown.uses text program.names table
  pub output_is : output ≡ rows_and_gap shown.cycles program (lines text) ++ table

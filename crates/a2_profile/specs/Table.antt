-- What is shown of a profile: a row for each line of the source, for each other address where a step began, and for each line that
-- was never executed; and the sums. This project's profile.
use Rattle.std.specs.Prelude.{ℕ, zero, suc, ◌+◌, ◌-◌, ◌*◌, ◌/◌, ◌%◌, ◌==◌, ◌&&◌, not, Bool, true, false, List, [], ◌∷◌, ◌++◌, length, take, codes, Option, Some, None, is_some, is_none, slice_get, unwrap_or, if◌then◌else◌}
use Rattle.std.specs.List.{concat, flat_map}
use Rattle.std.specs.Fmt.{decimal}
use Rattle.a2_text.specs.Digits.{hex_word}
use Rattle.a2_opcode.specs.declared.Mode.{Mode}
use Rattle.a2_opcode.specs.declared.Mode.TheVariants.{Relative}
use Rattle.a2_asm.specs.declared.program.Statement.{Statement}
use Rattle.a2_asm.specs.Assembled.{Assembled}
use Rattle.a2_asm.specs.Programs.{instr_at}
use Rattle.a2_symbols.specs.Statements.{instruction_on}
use Rattle.a2_profile.specs.declared.profile.Count.{Count}
use Rattle.a2_profile.specs.Counts.{count_at, steps_in, cycles_in}
use Rattle.a2_profile.specs.Row.{row}

-- a row: the cells before the line, its number or address, and its text
unfoldable pub line_cells : List ℕ → List ℕ → List ℕ → List ℕ → List ℕ → List ℕ → List ℕ → List ℕ
line_cells times cycles share taken straight label text =
    row ((10, times) ∷ (14, cycles) ∷ (8, share) ∷ (11, taken) ∷ (11, straight) ∷ (7, label) ∷ []) (text ∷ [])

abbrev pub heading : List ℕ
heading = line_cells (codes "TIMES") (codes "CYCLES") (codes "SHARE") (codes "TAKEN") (codes "NOT") (codes "LINE") (codes "SOURCE")

-- how many thousandths of all cycles, rounded down
abbrev pub per_mille : ℕ → ℕ → ℕ
per_mille cycles all = if all == 0 then 0 else 1000 * cycles / all

-- the same in hundredths, as 12.3%
unfoldable pub share_digits : ℕ → List ℕ
share_digits thousandths = decimal (thousandths / 10) ++ (codes "." ++ (decimal (thousandths % 10) ++ codes "%"))

-- a number that is shown only for a branch
abbrev pub branch_digits : Bool → ℕ → List ℕ
branch_digits is_branch n = if is_branch then decimal n else []

-- the row of a count: its steps, its cycles, and their share of all cycles; for a branch how often it was taken, and how often not
abbrev pub count_row : ℕ → Bool → Count → List ℕ → List ℕ → List ℕ
count_row all is_branch count label text =
    line_cells (decimal count.times) (decimal count.cycles) (share_digits (per_mille count.cycles all)) (branch_digits is_branch count.taken)
    (branch_digits is_branch (count.times - count.taken)) label text

abbrev pub is_relative : Mode → Bool
is_relative Relative = true
is_relative _ = false

abbrev pub is_branch : Statement → Bool
is_branch s = elim s.instr [ None ↦ false | Some instr ↦ is_relative instr.mode ]

-- the row of a line, with a count if it has an instruction
abbrev pub line_row : List Count → Option Statement → ℕ → List ℕ → List ℕ
line_row counts None n text = line_cells [] [] [] [] [] (decimal n) text
line_row counts (Some s) n text = count_row (cycles_in counts) (is_branch s) (count_at counts s.addr) (decimal n) text

-- the rows of lines, from the line with a number on
abbrev pub line_rows : List Count → List Statement → ℕ → List (List ℕ) → List ℕ
line_rows counts statements n [] = []
line_rows counts statements n (text ∷ texts) =
    line_row counts (instruction_on statements n) n text ++ line_rows counts statements (n + 1) texts

-- steps began at an address where there is no instruction of the source: at a service, or at bytes in a free run
abbrev pub is_outside : List Statement → List Count → ℕ → Bool
is_outside statements counts address = not ((count_at counts address).times == 0) && is_none (instr_at statements address)

abbrev pub outside_row : List Statement → List Count → ℕ → List ℕ
outside_row statements counts address =
    if is_outside statements counts address
    then count_row (cycles_in counts) false (count_at counts address) (hex_word address) (codes "OUTSIDE THE SOURCE") else []

-- the rows of so many addresses
unfoldable pub rows_from : (ℕ → List ℕ) → ℕ → ℕ → List ℕ
rows_from row_of first zero = []
rows_from row_of first (suc count) = row_of first ++ rows_from row_of (first + 1) count

abbrev pub outside_rows : List Statement → List Count → List ℕ
outside_rows statements counts = rows_from (outside_row statements counts) 0 65536

-- an instruction that no step of the run executed
abbrev pub is_never_done : List Count → Statement → Bool
is_never_done counts s = is_some s.instr && ((count_at counts s.addr).times == 0)

-- the line of a statement
abbrev pub line_of : List (List ℕ) → Statement → List ℕ
line_of texts s = unwrap_or (slice_get texts (s.line - 1)) []

abbrev pub never_row : List Count → List (List ℕ) → Statement → List ℕ
never_row counts texts s = if is_never_done counts s then line_cells (codes "NEVER") [] [] [] [] (decimal s.line) (line_of texts s) else []

-- the lines that were never executed
abbrev pub never_rows : List Count → List (List ℕ) → List Statement → List ℕ
never_rows counts texts statements = flat_map (never_row counts texts) statements

-- as STEPS=5 CYCLES=25
unfoldable pub sum_line : List ℕ → List ℕ → List ℕ
sum_line steps cycles = concat (codes "STEPS=" ∷ steps ∷ codes " CYCLES=" ∷ cycles ∷ codes "\n" ∷ [])

abbrev pub sums : List Count → List ℕ
sums counts = sum_line (decimal (steps_in counts)) (decimal (cycles_in counts))

-- the whole table
abbrev pub profile_table : Assembled → List (List ℕ) → List Count → List ℕ
profile_table program texts counts =
    heading ++ (line_rows counts program.statements 1 texts ++ (outside_rows program.statements counts
    ++ (never_rows counts texts program.statements ++ sums counts)))

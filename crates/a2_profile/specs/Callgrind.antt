-- What is written of a profile in the format of Callgrind's files (Valgrind's "Callgrind Format Specification", version 1), for its
-- readers. A line's cost is its steps and its cycles. This project's profile.
use Rattle.std.specs.Prelude.{ℕ, ◌+◌, ◌==◌, ◌||◌, nat_lt, List, [], ◌∷◌, ◌++◌, length, map, find, codes, Option, Some, None, if◌then◌else◌}
use Rattle.std.specs.List.{concat}
use Rattle.std.specs.Fmt.{decimal}
use Rattle.a2_text.specs.Digits.{hex_word}
use Rattle.a2_asm.specs.declared.program.Statement.{Statement}
use Rattle.a2_asm.specs.Assembled.{Assembled}
use Rattle.a2_asm.specs.Programs.{begins_at}
use Rattle.a2_asm.specs.Values.{Names}
use Rattle.a2_symbols.specs.Statements.{instruction_on}
use Rattle.a2_profile.specs.declared.profile.Count.{Count}
use Rattle.a2_profile.specs.declared.walk.Totals.{Totals}
use Rattle.a2_profile.specs.Counts.{count_at, steps_in, cycles_in}
use Rattle.a2_profile.specs.Totals.{itself, totals_at, own_steps_in, own_cycles_in}
use Rattle.a2_profile.specs.Table.{is_outside, rows_from}
use Rattle.a2_symbols.specs.Names.{name_of}

-- a byte of a file's name, with ? for a control byte, which would end a line
abbrev pub shown_byte : ℕ → ℕ
shown_byte byte = if nat_lt byte 0x20 || (byte == 0x7F) then 0x3F else byte

unfoldable pub name_line : List ℕ → List ℕ
name_line name = map shown_byte name ++ codes "\n"

-- the beginning: the kind of the costs, all of them, and the files: 2 is for what is in no file, 1 for the source
unfoldable pub heading : ℕ → ℕ → List ℕ
heading steps cycles = concat (
    codes "# callgrind format\nversion: 1\ncreator: a2lab\ncmd: a2lab profile\npositions: line\nevents: Steps Cycles\nsummary: "
    ∷ decimal steps ∷ codes " " ∷ decimal cycles ∷ codes "\nfl=(2) ???\nfl=(1) " ∷ [])

-- the cost of a line
unfoldable pub cost_row : ℕ → ℕ → ℕ → List ℕ
cost_row line steps cycles = concat (decimal line ∷ codes " " ∷ decimal steps ∷ codes " " ∷ decimal cycles ∷ codes "\n" ∷ [])

-- a function in a file, with a line and its cost
unfoldable pub function_head : List ℕ → List ℕ → List ℕ
function_head file name = concat (codes "fl=(" ∷ file ∷ codes ")\nfn=" ∷ name ∷ codes "\n" ∷ [])

abbrev pub function_record : List ℕ → List ℕ → ℕ → ℕ → ℕ → List ℕ
function_record file name line steps cycles = function_head file name ++ cost_row line steps cycles

-- the name of what begins at an address: its first name in the source, or else the address, as $FDED
abbrev pub function_name : Names → ℕ → List ℕ
function_name names address = if length (name_of names address) == 0 then 0x24 ∷ hex_word address else name_of names address

-- the cost of the instruction on a line, if there is one and it was executed
abbrev pub line_cost : List Count → Option Statement → ℕ → List ℕ
line_cost counts None n = []
line_cost counts (Some s) n =
    if (count_at counts s.addr).times == 0 then [] else cost_row n (count_at counts s.addr).times (count_at counts s.addr).cycles

-- the costs of lines, from the line with a number on
abbrev pub line_costs : List Count → List Statement → ℕ → List (List ℕ) → List ℕ
line_costs counts statements n [] = []
line_costs counts statements n (text ∷ texts) =
    line_cost counts (instruction_on statements n) n ++ line_costs counts statements (n + 1) texts

-- and of all lines, in one function
unfoldable pub source_costs : List Count → List Statement → List (List ℕ) → List ℕ
source_costs counts statements texts = codes "fn=THE SOURCE\n" ++ line_costs counts statements 1 texts

-- a function for each other address where steps began
abbrev pub outside_record : Assembled → List Count → ℕ → List ℕ
outside_record program counts address =
    if is_outside program.statements counts address
    then function_record (codes "2") (function_name program.names address) 0 (count_at counts address).times
    (count_at counts address).cycles
    else []

-- all of a profile by line
abbrev pub callgrind_profile : List ℕ → Assembled → List (List ℕ) → List Count → List ℕ
callgrind_profile name program texts counts =
    heading (steps_in counts) (cycles_in counts) ++ (name_line name ++ (source_costs counts program.statements texts
    ++ rows_from (outside_record program counts) 0 65536))

-- the line of the instruction that begins at an address, or 0
abbrev pub line_of_found : Option Statement → ℕ
line_of_found None = 0
line_of_found (Some s) = s.line

abbrev pub line_at : List Statement → ℕ → ℕ
line_at statements address = line_of_found (find (begins_at address) statements)

-- a routine is a function of the line where it begins, with its own steps and cycles
abbrev pub totals_record : List ℕ → ℕ → Totals → List ℕ
totals_record name line t = function_record (if line == 0 then codes "2" else codes "1") name line t.steps t.cycles

abbrev pub routine_record : Assembled → List Totals → ℕ → List ℕ
routine_record program totals address =
    if (totals_at totals address).times == 0 then []
    else totals_record (function_name program.names address) (line_at program.statements address) (totals_at totals address)

abbrev pub itself_record : Assembled → List Totals → List ℕ
itself_record program totals =
    totals_record (codes "THE PROGRAM ITSELF") (line_at program.statements program.entry) (totals_at totals itself)

-- all of a profile by routine
abbrev pub callgrind_routines : List ℕ → Assembled → List Totals → List ℕ
callgrind_routines name program totals =
    heading (own_steps_in totals) (own_cycles_in totals) ++ (name_line name ++ (itself_record program totals
    ++ rows_from (routine_record program totals) 0 65536))

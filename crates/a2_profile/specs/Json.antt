-- What is written of a profile as a JSON object (RFC 8259). This project's profile.
use Rattle.std.specs.Prelude.{ℕ, ◌+◌, ◌-◌, ◌==◌, nat_lt, not, Bool, true, false, List, [], ◌∷◌, ◌++◌, map, codes, Option, Some, None, if◌then◌else◌}
use Rattle.std.specs.List.{concat, filter, flat_map, join_by, range_with_len}
use Rattle.std.specs.Fmt.{decimal}
use Rattle.a2_text.specs.Json.{escaped}
use Rattle.a2_asm.specs.declared.program.Statement.{Statement}
use Rattle.a2_asm.specs.Assembled.{Assembled}
use Rattle.a2_asm.specs.Values.{Names}
use Rattle.a2_machine.specs.declared.causes.Cause.{Cause}
use Rattle.a2_machine.specs.Causes.{cause_name}
use Rattle.a2_symbols.specs.Statements.{instruction_on}
use Rattle.a2_profile.specs.declared.profile.Count.{Count}
use Rattle.a2_profile.specs.declared.walk.Totals.{Totals}
use Rattle.a2_profile.specs.Counts.{count_at, steps_in, cycles_in}
use Rattle.a2_profile.specs.Totals.{itself, totals_at, own_steps_in, own_cycles_in}
use Rattle.a2_profile.specs.Table.{is_branch, is_outside, is_never_done}
use Rattle.a2_symbols.specs.Names.{name_of}

-- a text between the quotes of a string
unfoldable pub escapes : List ℕ → List ℕ
escapes text = flat_map escaped text

-- the same between these texts
unfoldable pub string_field : List ℕ → List ℕ → List ℕ → List ℕ
string_field front text end = front ++ (escapes text ++ end)

-- what a reader of JSON finds after an open string: what follows its first quote without a backslash before it. `following` says
-- whether a backslash is before the next byte. No string has a control byte.
abbrev pub after_string : Bool → List ℕ → Option (List ℕ)
after_string following [] = None
after_string true (byte ∷ rest) = after_string false rest
after_string false (byte ∷ rest) =
    if nat_lt byte 0x20 then None else if byte == 0x22 then Some rest else after_string (byte == 0x5C) rest

-- the items of an array, with commas between them
unfoldable pub items : List (List ℕ) → List ℕ
items texts = join_by (λ text. text) (codes ",\n") texts

-- so many addresses
unfoldable pub addresses_from : ℕ → ℕ → List ℕ
addresses_from first count = range_with_len first count

-- an address, how many steps began there, and their cycles
unfoldable pub count_fields : List ℕ → ℕ → Count → List ℕ → List ℕ
count_fields front address count end = concat (
    front ∷ codes "\"address\":" ∷ decimal address ∷ codes ",\"times\":" ∷ decimal count.times ∷ codes ",\"cycles\":"
    ∷ decimal count.cycles ∷ end ∷ [])

-- how often a branch was taken, and how often not
unfoldable pub branch_fields : Bool → Count → List ℕ
branch_fields is_branch count =
    if is_branch
    then concat (codes ",\"taken\":" ∷ decimal count.taken ∷ codes ",\"not_taken\":" ∷ decimal (count.times - count.taken) ∷ [])
    else []

-- what is counted of the instruction on a line, if there is one
abbrev pub statement_fields : List Count → Option Statement → List ℕ
statement_fields counts None = []
statement_fields counts (Some s) =
    count_fields (codes ",") s.addr (count_at counts s.addr) [] ++ branch_fields (is_branch s) (count_at counts s.addr)

-- the object of a line: its number, its count and the line
unfoldable pub line_head : ℕ → List ℕ
line_head n = concat (codes "{\"line\":" ∷ decimal n ∷ [])

abbrev pub line_object : List Count → Option Statement → ℕ → List ℕ → List ℕ
line_object counts own n text =
    line_head n ++ (statement_fields counts own ++ string_field (codes ",\"source\":\"") text (codes "\"}"))

-- the objects of lines, from the line with a number on
abbrev pub line_objects : List Count → List Statement → ℕ → List (List ℕ) → List (List ℕ)
line_objects counts statements n [] = []
line_objects counts statements n (text ∷ texts) =
    line_object counts (instruction_on statements n) n text ∷ line_objects counts statements (n + 1) texts

-- the objects of the other addresses where steps began
abbrev pub outside_object : List Count → ℕ → List ℕ
outside_object counts address = count_fields (codes "{") address (count_at counts address) (codes "}")

abbrev pub outside_objects : List Statement → List Count → List ℕ → List (List ℕ)
outside_objects statements counts addresses = map (outside_object counts) (filter (is_outside statements counts) addresses)

-- the numbers of the lines that were never executed
abbrev pub never_numbers : List Count → List Statement → List (List ℕ)
never_numbers counts statements = map (λ s. decimal s.line) (filter (is_never_done counts) statements)

-- the causes of the ends, one for each run
abbrev pub cause_string : Cause → List ℕ
cause_string cause = concat (codes "\"" ∷ cause_name cause ∷ codes "\"" ∷ [])

-- all steps and cycles, and what is before the causes
unfoldable pub sum_fields : ℕ → ℕ → List ℕ
sum_fields steps cycles = concat (
    codes "{\"steps\":" ∷ decimal steps ∷ codes ",\"cycles\":" ∷ decimal cycles ∷ codes ",\"causes\":[" ∷ [])

-- the arrays of a profile by line, each of which ends the one before it
unfoldable pub lines_array : List Count → List Statement → List (List ℕ) → List ℕ
lines_array counts statements texts = codes "],\n\"lines\":[\n" ++ items (line_objects counts statements 1 texts)

unfoldable pub outside_array : List Statement → List Count → List ℕ
outside_array statements counts =
    codes "],\n\"outside\":[\n" ++ items (outside_objects statements counts (addresses_from 0 65536))

unfoldable pub never_array : List Count → List Statement → List ℕ
never_array counts statements = codes "],\n\"never\":[\n" ++ items (never_numbers counts statements)

-- all of a profile by line
abbrev pub json_profile : Assembled → List (List ℕ) → List Count → List Cause → List ℕ
json_profile program texts counts causes =
    sum_fields (steps_in counts) (cycles_in counts) ++ (items (map cause_string causes)
    ++ (lines_array counts program.statements texts
    ++ (outside_array program.statements counts ++ (never_array counts program.statements ++ codes "]}\n"))))

-- what is counted of a routine
unfoldable pub totals_fields : List ℕ → Totals → List ℕ
totals_fields front t = concat (
    front ∷ codes "\"steps\":" ∷ decimal t.steps ∷ codes ",\"cycles\":" ∷ decimal t.cycles ∷ codes ",\"all_steps\":"
    ∷ decimal t.all_steps ∷ codes ",\"all_cycles\":" ∷ decimal t.all_cycles ∷ codes "}" ∷ [])

unfoldable pub entry_fields : ℕ → ℕ → List ℕ
entry_fields address times = concat (
    codes "\"address\":" ∷ decimal address ∷ codes ",\"times\":" ∷ decimal times ∷ codes "," ∷ [])

-- the object of a routine: its name, its address, how often it was entered, and its totals
abbrev pub routine_object : Names → List Totals → ℕ → List ℕ
routine_object names totals address =
    string_field (codes "{\"name\":\"") (name_of names address) (codes "\",")
    ++ (entry_fields address (totals_at totals address).times ++ totals_fields [] (totals_at totals address))

-- those of the routines that were entered
abbrev pub is_entered : List Totals → ℕ → Bool
is_entered totals address = not ((totals_at totals address).times == 0)

abbrev pub routine_objects : Names → List Totals → List ℕ → List (List ℕ)
routine_objects names totals addresses = map (routine_object names totals) (filter (is_entered totals) addresses)

unfoldable pub routines_array : Names → List Totals → List ℕ
routines_array names totals = codes ",\n\"routines\":[\n" ++ items (routine_objects names totals (addresses_from 0 65536))

-- all of a profile by routine
abbrev pub json_routines : Assembled → List Totals → List Cause → List ℕ
json_routines program totals causes =
    sum_fields (own_steps_in totals) (own_cycles_in totals) ++ (items (map cause_string causes)
    ++ (totals_fields (codes "],\n\"itself\":{") (totals_at totals itself)
    ++ (routines_array program.names totals ++ codes "]}\n")))

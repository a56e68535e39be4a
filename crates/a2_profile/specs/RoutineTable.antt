-- What is shown of a profile by routine: a row for the program itself and for each routine that was entered, and the sums. This
-- project's profile.
use Rattle.std.specs.Prelude.{ℕ, ◌==◌, List, [], ◌∷◌, ◌++◌, codes, if◌then◌else◌}
use Rattle.std.specs.Fmt.{decimal}
use Rattle.a2_text.specs.Digits.{hex_word}
use Rattle.a2_asm.specs.Assembled.{Assembled}
use Rattle.a2_asm.specs.Values.{Names}
use Rattle.a2_symbols.specs.Names.{name_of}
use Rattle.a2_profile.specs.declared.walk.Totals.{Totals}
use Rattle.a2_profile.specs.Totals.{itself, totals_at, own_steps_in, own_cycles_in}
use Rattle.a2_profile.specs.Row.{row}
use Rattle.a2_profile.specs.Table.{share_digits, per_mille, rows_from, sum_line}

-- a row: the cells before the routine, its address, and its name
unfoldable pub routine_cells : List ℕ → List ℕ → List ℕ → List ℕ → List ℕ → List ℕ → List ℕ → List ℕ → List ℕ → List ℕ
routine_cells times steps cycles share all_steps all_cycles all_share label name =
    row ((10, times) ∷ (12, steps) ∷ (14, cycles) ∷ (8, share) ∷ (12, all_steps) ∷ (14, all_cycles) ∷ (8, all_share) ∷ []) (label ∷ name ∷ [])

abbrev pub routine_heading : List ℕ
routine_heading =
    routine_cells (codes "TIMES") (codes "STEPS") (codes "CYCLES") (codes "SHARE") (codes "ALL STEPS") (codes "ALL CYCLES") (codes "SHARE") (codes "ROUTINE") []

-- the row of a routine: how often it was entered, its own steps and cycles with their share of all cycles, and the same including
-- what it calls
abbrev pub totals_row : ℕ → List ℕ → Totals → List ℕ → List ℕ → List ℕ
totals_row all times t label name =
    routine_cells times (decimal t.steps) (decimal t.cycles) (share_digits (per_mille t.cycles all)) (decimal t.all_steps)
    (decimal t.all_cycles) (share_digits (per_mille t.all_cycles all)) label name

-- the row of the program itself, which is not entered
abbrev pub itself_row : List Totals → List ℕ
itself_row totals = totals_row (own_cycles_in totals) [] (totals_at totals itself) (codes "THE PROGRAM ITSELF") []

-- the row of a routine that was entered, with its address and its name
abbrev pub routine_row : Names → List Totals → ℕ → List ℕ
routine_row names totals address =
    if (totals_at totals address).times == 0 then []
    else totals_row (own_cycles_in totals) (decimal (totals_at totals address).times) (totals_at totals address) (hex_word address) (name_of names address)

abbrev pub routine_rows : Names → List Totals → List ℕ
routine_rows names totals = rows_from (routine_row names totals) 0 65536

abbrev pub routine_sums : List Totals → List ℕ
routine_sums totals = sum_line (decimal (own_steps_in totals)) (decimal (own_cycles_in totals))

-- the whole table
abbrev pub routine_table : Assembled → List Totals → List ℕ
routine_table program totals = routine_heading ++ (itself_row totals ++ (routine_rows program.names totals ++ routine_sums totals))

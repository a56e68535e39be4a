-- The contents of the arrays, for the contracts of the functions that read them.
use Rattle.std.specs.Prelude.{ℕ, ◌+◌, ◌*◌, ◌%◌, List, Option, option_map, slice_index_or}
use Rattle.a2_opcode.specs.declared.Mnemonic.{Mnemonic}
use Rattle.a2_opcode.specs.declared.Mode.{Mode}
use Rattle.a2_opcode.specs.declared.Row.{Row}
use Rattle.a2_opcode.specs.declared.names.TheConstants.{INDEX_BY_WEIGHT}
use Rattle.a2_opcode.specs.Table.{row}

-- the opcode of a mnemonic with a mode, if the table has a row for them
abbrev pub opcode_in_table : Mnemonic → Mode → Option ℕ
opcode_in_table mnemonic mode = option_map (λ (r : Row). r.opcode) (row mnemonic mode)

-- the weight of three letters
abbrev pub weight_of : List ℕ → ℕ
weight_of letters = 6 * slice_index_or letters 0 0 + 10 * slice_index_or letters 1 0 + 3 * slice_index_or letters 2 0

-- the index of the only mnemonic that may have three letters
unfoldable pub index_by_letters : List ℕ → ℕ
index_by_letters letters = slice_index_or INDEX_BY_WEIGHT (weight_of letters % 256) 0

use Rattle.std.proofs.Common.{arith, ◌∙◌}
use Rattle.a2_opcode.proofs.Lookup.{row-at, row_of-told, row_of-only}
use Rattle.a2_opcode.proofs.table.row_of.Goals as goal

pub returns : goal.returns
returns c =
    let is = row-at c.args.opcode (omega arith) in
    record { value = is; found = row_of-told c.args.opcode _ is; only = λ r is_row. is ∙ row_of-only c.args.opcode r is_row }

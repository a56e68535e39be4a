use Rattle.std.proofs.Common.{◌∙◌, sym}
use Rattle.a2_opcode.proofs.Lookup.{row-by-opcode, row-told, row-only}
use Rattle.a2_opcode.proofs.table.row_for.Goals as goal

pub returns-in_err-opcode : goal.returns-in_err-opcode
returns-in_err-opcode c =
    let is = c.from_residual.ensures ∙ row-by-opcode c.args.mnemonic c.args.mode _ (sym c.in_err-opcode.was ∙ c.opcode.ensures) in
    record { value = is; found = row-told _ _ _ is; only = λ r is_row. is ∙ row-only _ _ r is_row }

pub returns : goal.returns
returns c =
    let is = c.row_of.ensures.value ∙ row-by-opcode c.args.mnemonic c.args.mode _ (sym c.in_ok-opcode.was ∙ c.opcode.ensures) in
    record { value = is; found = row-told _ _ _ is; only = λ r is_row. is ∙ row-only _ _ r is_row }

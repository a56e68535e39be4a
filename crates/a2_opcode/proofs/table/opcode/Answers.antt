use Rattle.std.proofs.Common.{◌∙◌, rules}
use Rattle.a2_opcode.proofs.Lookup.{opcode-at}
use Rattle.a2_opcode.proofs.table.opcode.Goals as goal

pub returns : goal.returns
returns c = search rules ∙ opcode-at c.args.mnemonic c.args.mode

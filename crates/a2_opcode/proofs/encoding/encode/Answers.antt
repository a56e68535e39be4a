use Rattle.std.proofs.Common.{arith}
use Rattle.std.proofs.lemmas.Grind.{common_steps}
use Rattle.a2_opcode.specs.Encoding.{encoded}
use Rattle.a2_opcode.proofs.Fetching.{decodes-told, fetched-told}
use Rattle.a2_opcode.proofs.encoding.encode.Goals as goal

pub returns-clause-bytes : goal.returns-clause-bytes
unfolding encoded
returns-clause-bytes c = grind (arith, common_steps)

pub returns-clause-decodes : goal.returns-clause-decodes
returns-clause-decodes c = decodes-told c.args.instr c.args.address (omega arith) (omega arith) _ (returns-clause-bytes c)

pub returns-clause-fetched : goal.returns-clause-fetched
returns-clause-fetched c = fetched-told c.args.instr c.args.address (omega arith) (omega arith) _ (returns-clause-bytes c)

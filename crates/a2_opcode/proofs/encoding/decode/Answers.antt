use Rattle.std.proofs.Common.{sym, arith}
use Rattle.std.proofs.lemmas.Grind.{common_steps}
use Rattle.a2_opcode.specs.Encoding.{decoded}
use Rattle.a2_opcode.proofs.RoundTrip.{encodes-back}
use Rattle.a2_opcode.proofs.Fetching.{fetched-back}
use Rattle.a2_opcode.proofs.encoding.decode.Goals as goal

pub returns-clause-value : goal.returns-clause-value
unfolding decoded
returns-clause-value c = grind (arith, common_steps)

pub returns-clause-encodes : goal.returns-clause-encodes
returns-clause-encodes c = encodes-back c.args.bytes.now c.args.address _ (omega arith) (λ k. omega (arith, c.type_inv.bytes k)) (sym (returns-clause-value c))

pub returns-clause-fetched : goal.returns-clause-fetched
returns-clause-fetched c = fetched-back _ c.args.address _ (omega arith) (omega arith) (returns-clause-encodes c)

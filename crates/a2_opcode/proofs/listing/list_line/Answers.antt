use Rattle.a2_opcode.proofs.RoundTrip.{coded}
use Rattle.a2_opcode.proofs.listing.list_line.Goals as goal

pub put_operand-requires-clause-fits : goal.put_operand-requires-clause-fits
put_operand-requires-clause-fits c = (c.args.address, (coded c.in-Some.instr c.args.address _ c.in-Some.ensures.encodes).fits)

use Rattle.a2_hex.proofs.RoundTrip.{written-loads}
use Rattle.a2_hex.proofs.write.written_lines_load.Goals as goal

pub returns : goal.returns
returns c = written-loads

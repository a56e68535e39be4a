use Rattle.std.specs.Io.KnownBytes.{Consumes}
use Rattle.a2_packets.proofs.reading.read_head.Given as goal

-- the bytes so far are the lines so far
abbrev pub invariant-bytes : goal.invariant-bytes
invariant-bytes g l = Consumes (g.R.Input.giver l.fn.input).bytes (g.R.Input.giver l.input).bytes l.head.items

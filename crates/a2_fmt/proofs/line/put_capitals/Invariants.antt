use Rattle.std.proofs.Common.{◌≡◌, ◌++◌, map, length}
use Rattle.a2_text.specs.Bytes.{capital}
use Rattle.a2_fmt.proofs.line.put_capitals.Given as goal

abbrev pub invariant-loop-c : goal.invariant-loop-c
invariant-loop-c g l = l.row.items ++ map capital l.rest ≡ l.fn.row.items ++ map capital l.word

abbrev pub decreases-loop-c : goal.decreases-loop-c
decreases-loop-c g l = length l.rest

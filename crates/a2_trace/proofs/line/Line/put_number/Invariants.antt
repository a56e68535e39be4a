use Rattle.std.proofs.Common.{◌≡◌, ◌+◌, ◌≤◌, ◌++◌, length}
use Rattle.std.specs.Fmt.{decimal}
use Rattle.a2_trace.proofs.line.Line.put_number.Given as goal

-- the digits that are left, and then the line so far, are the number's digits and then the line before
abbrev pub invariant-loop-rest : goal.invariant-loop-rest
invariant-loop-rest l = record {
  text : decimal l.rest ++ l.self ≡ decimal l.number ++ l.fn.self;
  room : length (decimal l.rest) + length l.self ≤ 20 + length l.fn.self;
}

abbrev pub decreases-loop-rest : goal.decreases-loop-rest
decreases-loop-rest l = l.rest

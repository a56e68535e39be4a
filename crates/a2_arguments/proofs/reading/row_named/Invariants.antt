use Rattle.std.proofs.Common.{◌≡◌, drop}
use Rattle.a2_arguments.specs.Reading.{row_of}
use Rattle.a2_arguments.proofs.reading.row_named.Given as goal

-- what is looked for is not among the rows so far
abbrev pub invariant-loop-row : goal.invariant-loop-row
invariant-loop-row l = row_of (drop l.row-index l.rows) l.name ≡ row_of l.rows l.name

use Rattle.a2_syntax.proofs.ParseLaws.{none-long}
use Rattle.a2_syntax.proofs.limits.lines.Goals as goal

pub returns-clause-short : goal.returns-clause-short
returns-clause-short g c = rw (← c.as_slice.ensures.value) (none-long 1 c.as_slice.result.now c.in-None.ensures)

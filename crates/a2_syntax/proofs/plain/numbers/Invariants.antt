use Rattle.std.proofs.Common.{◌+◌, ◌≤◌, length}
use Rattle.a2_syntax.specs.Reading.{SpellsExprs}
use Rattle.a2_syntax.proofs.Going.{Leads}
use Rattle.a2_syntax.proofs.plain.numbers.Given as goal

abbrev pub invariant-numbers : goal.invariant-numbers
invariant-numbers g l = record {
  reads : Leads SpellsExprs l.text l.rest l.found.items;
  count : length l.found.items + length l.rest ≤ 255;
}

abbrev pub decreases-numbers : goal.decreases-numbers
decreases-numbers g l = length l.rest

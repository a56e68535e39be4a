use Rattle.std.proofs.Common.{◌≡◌}
use Rattle.a2_expand.specs.Places.{own_places}
use Rattle.a2_expand.proofs.expansion.own_lines.Given as goal

-- the places of the lines so far
abbrev pub invariant-loop-before : goal.invariant-loop-before
invariant-loop-before g l = l.origins.items ≡ own_places l.before

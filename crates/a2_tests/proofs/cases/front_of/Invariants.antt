use Rattle.std.proofs.Common.{◌≡◌, ◌+◌, drop}
use Rattle.std.specs.List.{position_or_len}
use Rattle.a2_tests.specs.Cases.{begins_case}
use Rattle.a2_tests.proofs.cases.front_of.Given as goal

-- no line so far begins a case
abbrev pub invariant-loop-index : goal.invariant-loop-index
invariant-loop-index l = l.index + position_or_len begins_case (drop l.index l.lines) ≡ position_or_len begins_case l.lines

use Rattle.std.proofs.Common.{◌≡◌}
use Rattle.a2_tests.proofs.report.objects.put_cases.Given as goal

-- what was before the object stays
abbrev pub invariant-loop-index : goal.invariant-loop-index
invariant-loop-index l = l.json.before ≡ l.fn.json.before

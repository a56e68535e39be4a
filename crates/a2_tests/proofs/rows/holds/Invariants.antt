use Rattle.std.proofs.Common.{◌≡◌, drop, map}
use Rattle.a2_tests.specs.Rows.{holds}
use Rattle.a2_tests.proofs.rows.holds.Given as goal

abbrev pub invariant-loop-text : goal.invariant-loop-text
invariant-loop-text l = holds l.part (map (λ x. x.now) (drop l.text-index l.shown)) ≡ holds l.part (map (λ x. x.now) l.shown)

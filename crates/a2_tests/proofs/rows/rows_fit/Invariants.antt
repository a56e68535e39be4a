use Rattle.std.proofs.Common.{◌≡◌, ◌≤◌, drop, length, map}
use Rattle.a2_tests.specs.Rows.{rows_fit}
use Rattle.a2_tests.proofs.rows.rows_fit.Given as goal

abbrev pub invariant-loop-text : goal.invariant-loop-text
invariant-loop-text l = record {
  within : l.used ≤ length l.lines;
  rest : rows_fit l.kind (drop l.used l.lines) (map (λ x. x.now) (drop l.text-index l.shown)) ≡ rows_fit l.kind l.lines (map (λ x. x.now) l.shown);
}

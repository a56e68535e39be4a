use Rattle.std.proofs.Common.{◌≡◌, ◌+◌, map, drop}
use Rattle.a2_text.specs.FirstError.{first_line_error}
use Rattle.a2_syntax.specs.Limits.{long_line_error}
use Rattle.a2_syntax.proofs.limits.first_long.Given as goal

abbrev pub invariant-loop-line : goal.invariant-loop-line
invariant-loop-line l =
    (l.n ≡ l.line-index + 1) × (first_line_error long_line_error l.n (map (λ x. x.now) (drop l.line-index l.found)) ≡ first_line_error long_line_error 1 (map (λ x. x.now) l.found))

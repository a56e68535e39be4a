use Rattle.std.proofs.Common.{◌≡◌, map, List, ℕ, Bor, drop}
use Rattle.std.specs.List.{list_any}
use Rattle.a2_import.specs.Marks.{is_marked_line}
use Rattle.a2_import.proofs.outcome.has_marked_line.Given as goal

-- the remaining lines decide
abbrev pub invariant-loop-line : goal.invariant-loop-line
invariant-loop-line l = list_any is_marked_line (map (λ (x : Bor (List ℕ)). x.now) (drop l.line-index l.lines)) ≡ list_any is_marked_line (map (λ (x : Bor (List ℕ)). x.now) l.lines)

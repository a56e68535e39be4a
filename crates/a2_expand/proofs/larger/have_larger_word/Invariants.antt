use Rattle.std.proofs.Common.{◌≡◌, map, List, ℕ, Bor, drop}
use Rattle.std.specs.List.{list_any}
use Rattle.a2_expand.specs.Larger.{has_larger_word}
use Rattle.a2_expand.proofs.larger.have_larger_word.Given as goal

-- the remaining lines decide
abbrev pub invariant-loop-line : goal.invariant-loop-line
invariant-loop-line l = list_any has_larger_word (map (λ (x : Bor (List ℕ)). x.now) (drop l.line-index l.lines)) ≡ list_any has_larger_word (map (λ (x : Bor (List ℕ)). x.now) l.lines)

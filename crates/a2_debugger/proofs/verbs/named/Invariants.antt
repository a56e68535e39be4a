use Rattle.std.proofs.Common.{◌≡◌, take}
use Rattle.std.specs.List.{All}
use Rattle.a2_debugger.proofs.verbs.named.Given as goal

-- no row so far has this text
abbrev pub invariant-loop-word : goal.invariant-loop-word
invariant-loop-word l = All (λ row. row.0.now ≡ l.letters → ⊥) (take l.word-index l.rows)

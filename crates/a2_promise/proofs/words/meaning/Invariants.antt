use Rattle.std.proofs.Common.{◌≡◌, take}
use Rattle.std.specs.List.{All}
use Rattle.a2_promise.proofs.words.meaning.Given as goal

-- no row so far has the token's class and text
abbrev pub invariant-loop-class : goal.invariant-loop-class
invariant-loop-class g l = All (λ row. row.0 ≡ l.token.class → row.1.now ≡ l.token.text.now → ⊥) (take l.class-index l.rows)

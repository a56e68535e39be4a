-- What a condition answers. This project's own: docs/manual/larger-language.md, "Conditions".
use Rattle.std.specs.Prelude.{◌≡◌, ℕ, Bool, not, List, ℤ, pos}
use Rattle.a2_expand.specs.declared.value.Constant.{Constant}
use Rattle.a2_expand.specs.Expressions.{Says, are_equal}
use Rattle.a2_expand.specs.Pieces.{pieces_of}

-- whether the value of the expression in an operand is not 0
abbrev pub Answers : {A : Type 0} → List (Constant A) → List ℕ → Bool → Type 0
Answers constants operand answer = (z : ℤ) × Says constants (pieces_of operand) z × (answer ≡ not (are_equal z (pos 0)))

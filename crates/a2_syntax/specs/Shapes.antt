-- The punctuation and register letter around the expression of an operand. No public clause cites this file.
use Rattle.std.specs.Prelude.{ℕ, Bool, false, ◌==◌, List, [], ◌∷◌, Option, Some, None, option_map, option_and_then, if◌then◌else◌}
use Rattle.a2_text.specs.Bytes.{capital}
use Rattle.a2_text.specs.Signs.{sign}
use Rattle.a2_syntax.specs.Reading.{is_byte}
use Rattle.a2_syntax.specs.declared.operand.Shape.{Shape}
use Rattle.a2_syntax.specs.declared.operand.Shape.TheVariants as shapes
use Rattle.a2_syntax.specs.declared.source.Expr.{Expr}
use Rattle.a2_syntax.specs.declared.source.Operand.{Operand}
use Rattle.a2_syntax.specs.declared.source.Operand.TheVariants.{Immediate, Plain, WithX, WithY, InParenthesesX, ParenthesesY, InParentheses}

abbrev pub of_shape : {A : Type 0} → Shape → Expr A → Operand A
of_shape shapes.Immediate e = Immediate e
of_shape shapes.Plain e = Plain e
of_shape shapes.WithX e = WithX e
of_shape shapes.WithY e = WithY e
of_shape shapes.InParenthesesX e = InParenthesesX e
of_shape shapes.ParenthesesY e = ParenthesesY e
of_shape shapes.InParentheses e = InParentheses e

-- a single letter, in upper or lower case
abbrev pub is_letter : ℕ → List ℕ → Bool
is_letter c (x ∷ []) = capital x == c
is_letter c piece = false

abbrev pub is_accumulator : List (List ℕ) → Bool
is_accumulator (piece ∷ []) = is_letter (sign "A") piece
is_accumulator pieces = false

-- the pieces after a first piece that passes
abbrev pub following : (List ℕ → Bool) → List (List ℕ) → Option (List (List ℕ))
following passes [] = None
following passes (piece ∷ pieces) = if passes piece then Some pieces else None

-- the pieces before a last piece that passes
abbrev pub before : (List ℕ → Bool) → List (List ℕ) → Option (List (List ℕ))
before passes [] = None
before passes (piece ∷ []) = if passes piece then Some [] else None
before passes (piece ∷ next ∷ pieces) = option_map (λ front. piece ∷ front) (before passes (next ∷ pieces))

-- the pieces before a final comma and register letter
abbrev pub indexed : ℕ → List (List ℕ) → Option (List (List ℕ))
indexed c pieces = option_and_then (before (is_byte (sign ","))) (before (is_letter c) pieces)

-- the pieces between parentheses
abbrev pub enclosed : List (List ℕ) → Option (List (List ℕ))
enclosed pieces = option_and_then (before (is_byte (sign ")"))) (following (is_byte (sign "(")) pieces)

-- the shape of an operand that is not a single letter, and the pieces of its expression
abbrev pub shape_of : List (List ℕ) → Shape × List (List ℕ)
shape_of pieces = elim (following (is_byte (sign "#")) pieces) [
  | Some es ↦ (shapes.Immediate, es)
  | None ↦ elim (enclosed pieces) [
    | Some inner ↦ elim (indexed (sign "X") inner) [ Some es ↦ (shapes.InParenthesesX, es) | None ↦ (shapes.InParentheses, inner) ]
    | None ↦ elim (indexed (sign "X") pieces) [
      | Some es ↦ (shapes.WithX, es)
      | None ↦ elim (indexed (sign "Y") pieces) [
        | Some front ↦ elim (enclosed front) [ Some es ↦ (shapes.ParenthesesY, es) | None ↦ (shapes.WithY, front) ]
        | None ↦ (shapes.Plain, pieces)
      ]
    ]
  ]
]

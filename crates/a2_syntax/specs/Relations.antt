-- An optional value in a relation.
use Rattle.std.specs.Prelude.{Option, Some, None}

-- a value that satisfies the relation, or None if no value does
abbrev pub Finds : {X : Type 0} → (X → Type 0) → Option X → Type 0
Finds {X} R None = (x : X) → R x → ⊥
Finds R (Some x) = R x

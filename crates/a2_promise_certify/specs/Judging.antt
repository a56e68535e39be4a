-- Whether clauses of a promise hold. This project's profile.
use Rattle.std.specs.Prelude.{ℤ, pos, Bool, false, not, List, [], ◌∷◌, Option, Some, None}
use Rattle.std.specs.List.{list_all}
use Rattle.a2_promise.specs.Values.{Moment, value_of, is_zero}
use Rattle.a2_promise.specs.declared.promises.Clause.{Clause}

-- a fact holds if it has a value that is not 0
abbrev pub holds : Option ℤ → Bool
holds None = false
holds (Some z) = not (is_zero z)

-- no name is bound to a number outside of a count
abbrev pub no_names : List ℤ
no_names = pos 0 ∷ pos 0 ∷ pos 0 ∷ pos 0 ∷ []

-- all clauses hold, given the state in which a routine is entered and one in which it returns
abbrev pub all_hold : List Clause → Moment → Moment → Bool
all_hold clauses entry exit = list_all (λ clause. holds (value_of clause.expr entry exit no_names)) clauses

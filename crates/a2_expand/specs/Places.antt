-- Where the lines of an expansion come from. This project's own.
use Rattle.std.specs.Prelude.{ℕ, zero, suc, ◌+◌, List, [], ◌∷◌, ◌++◌}
use Rattle.a2_expand.specs.declared.fault.Origin.{Origin}

-- the first n lines of a text, each as its own place: file 0, its number from 1, and no call
abbrev pub own_places : ℕ → List Origin
own_places zero = []
own_places (suc n) = own_places n ++ record { file = 0; line = n + 1; call = 0 } ∷ []

-- The names of a program's addresses. This project's profile.
use Rattle.std.specs.Prelude.{ℕ, ◌==◌, List, [], find, Option, Some, None}
use Rattle.a2_asm.specs.Values.{Names}

abbrev pub named : Option (List ℕ × ℕ) → List ℕ
named None = []
named (Some entry) = entry.0

-- the first name with an address as its value, if there is one
abbrev pub name_of : Names → ℕ → List ℕ
name_of names address = named (find (λ entry. entry.1 == address) names)

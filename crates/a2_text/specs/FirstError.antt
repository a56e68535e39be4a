-- The first of several errors, and how an error is shown. This project's profile.
use Rattle.std.specs.Prelude.{ℕ, ◌+◌, ◌==◌, Bool, List, [], ◌∷◌, ◌++◌, codes, Option, Some, None, if◌then◌else◌}
use Rattle.std.specs.Fmt.{decimal}

-- the first value if there is one, otherwise the second
infixr 20 ◌otherwise◌
abbrev pub ◌otherwise◌ : {F : Type 0} → Option F → Option F → Option F
(Some f) otherwise g = Some f
None otherwise g = g

abbrev pub error_if : {F : Type 0} → Bool → F → Option F
error_if b f = if b then Some f else None

-- the error of the first line that fails a check; the lines are numbered from n on
abbrev pub first_line_error : {X F : Type 0} → (ℕ → X → Option F) → ℕ → List X → Option F
first_line_error check n [] = None
first_line_error check n (x ∷ xs) = check n x otherwise first_line_error check (n + 1) xs

-- the text of an error, preceded by `LINE `, the line number and a blank if it belongs to a line; 0 means no line
abbrev pub with_line_number : ℕ → List ℕ → List ℕ
with_line_number line text = if line == 0 then text else codes "LINE " ++ (decimal line ++ (codes " " ++ text))

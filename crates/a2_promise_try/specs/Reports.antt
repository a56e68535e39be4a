-- The report on a promise. This project's own.
use Rattle.std.specs.Prelude.{List, ℕ, [], ◌∷◌, codes, if◌then◌else◌}
use Rattle.std.specs.List.{concat}
use Rattle.a2_promise_try.specs.declared.verdict.PromiseVerdict.{PromiseVerdict}
use Rattle.a2_promise_try.specs.declared.verdict.PromiseVerdict.TheVariants.{Held}

-- `HOLDS` is said only of a promise that is known to hold everywhere
abbrev pub first_words : PromiseVerdict → List ℕ
first_words (Held held) = if held.is_everywhere then codes "HOLDS in every state" else codes "held in "
first_words _ = codes "FAILS: "

unfoldable pub joined : List ℕ → List ℕ → List ℕ → List ℕ
joined name words following = concat (name ∷ codes ": " ∷ words ∷ following ∷ [])

-- the name of the routine, the first words, and what follows them
abbrev pub report : List ℕ → PromiseVerdict → List ℕ → List ℕ
report name verdict following = joined name (first_words verdict) following

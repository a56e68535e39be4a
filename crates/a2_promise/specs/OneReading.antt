-- A line of a promise has one reading: words and signs form at most one expression, and lines give at most one
-- promise. This project's own.
use Rattle.std.specs.Prelude.{◌≡◌, ℕ, IsTrue, List}
use Rattle.std.specs.List.{list_all}
use Rattle.a2_asm.specs.Values.{Names}
use Rattle.a2_promise.specs.Written.{Written, spelled}
use Rattle.a2_promise.specs.Grammar.{Scope, may_count, fits}
use Rattle.a2_promise.specs.PromisedTerms.{Terms, IsPromisedBy}

-- two expressions that are allowed in their surroundings and have the same words and signs are equal
abbrev pub WordsSpellOneExpression : Type 0
WordsSpellOneExpression =
    (scope : Scope) (one other : Written) → IsTrue (list_all may_count scope.around)
    → IsTrue (fits scope one) → IsTrue (fits scope other) → spelled one ≡ spelled other → one ≡ other

-- the lines of a source give a routine at most one promise
abbrev pub LinesGiveOnePromise : Type 0
LinesGiveOnePromise =
    (lines : List (List ℕ)) (names : Names) (above : ℕ) (label : List ℕ) (one other : Terms)
    → IsPromisedBy lines names above label one → IsPromisedBy lines names above label other → one ≡ other

-- Verdicts on cases and keys of lines, one after another.
use Rattle.std.specs.Prelude.{◌≡◌, ℕ, List, [], ◌∷◌, ◌++◌, refl}
use Rattle.std.proofs.Common.{◌∙◌, ◌+◌, ◌<◌, ap, arith, append_assoc, get_or, length, sym, take}
use Rattle.std.proofs.lemmas.List.{append-nil, take_more}
use Rattle.a2_asm.specs.Assembled.{Assembled}
use Rattle.a2_timed_keys.specs.declared.strokes.Typed.{Typed}
use Rattle.a2_tests.specs.declared.cases.Case.{Case}
use Rattle.a2_tests.specs.declared.judge.Verdict.{Verdict}
use Rattle.a2_tests.specs.declared.line.NumberedLine.{NumberedLine}
use Rattle.a2_tests.specs.Judging.{AreVerdicts, IsVerdict, LinesType, LineTypes}

pub one-more : {A B : Type 0} (source : List ℕ) (program : Assembled) (cases : List (Case A)) (case : Case A) (verdicts : List (Verdict B)) (verdict : Verdict B)
    → AreVerdicts source program cases verdicts → IsVerdict case source program verdict
    → AreVerdicts source program (cases ++ case ∷ []) (verdicts ++ verdict ∷ [])
one-more source program [] case [] verdict are is = (is, tt)
one-more source program [] case (other ∷ verdicts) verdict are is = absurd are
one-more source program (other ∷ cases) case [] verdict are is = absurd are
one-more source program (other ∷ cases) case (first ∷ verdicts) verdict are is = (are.0, one-more source program cases case verdicts verdict are.1 is)

pub line-more : (lines : List NumberedLine) (asked : NumberedLine) (log more : List Typed)
    → LinesType lines log → LineTypes asked.line more → LinesType (lines ++ asked ∷ []) (log ++ more)
line-more [] asked log more are is = (more, [], is, refl, ap (λ (l : List Typed). l ++ more) are ∙ sym (append-nil more))
line-more (first ∷ rest) asked log more are is =
    (are.0, are.1 ++ more, are.2, line-more rest asked are.1 more are.3 is, grind (arith, are.4, append_assoc))

-- the same for the lines up to an index
pub next-typed : (lines : List NumberedLine) (i : ℕ) (d : NumberedLine) (log more new : List Typed) → i < length lines
    → LinesType (take i lines) log → LineTypes (get_or lines i d).line more → new ≡ log ++ more → LinesType (take (i + 1) lines) new
next-typed lines i d log more new low are is last =
    rw (last, take_more lines i d low) (line-more (take i lines) (get_or lines i d) log more are is)

-- Lines that are numbered, one after another.
use Rattle.std.specs.Prelude.{◌≡◌, ℕ, ◌+◌, ◌<◌, List, [], ◌∷◌, ◌++◌, length, map, take}
use Rattle.std.specs.Borrow.{Bor}
use Rattle.std.proofs.Common.{arith, ◌∙◌, get_or}
use Rattle.std.proofs.lemmas.List.{length-map, length-take-le, map_push, take_more}
use Rattle.a2_tests.specs.declared.line.NumberedLine.{NumberedLine}
use Rattle.a2_tests.specs.Cases.{AreLines}

pub one-line-more : (n : ℕ) (texts : List (List ℕ)) (text : List ℕ) (lines : List NumberedLine) (asked : NumberedLine)
    → AreLines n texts lines → asked.number ≡ n + length texts → AreLines n (texts ++ text ∷ []) (lines ++ asked ∷ [])
one-line-more n [] text [] asked are is = (omega (arith, is), tt)
one-line-more n [] text (other ∷ lines) asked are is = absurd are
one-line-more n (other ∷ texts) text [] asked are is = absurd are
one-line-more n (first ∷ texts) text (other ∷ lines) asked are is = (are.0, one-line-more (n + 1) texts text lines asked are.1 (omega (arith, is)))

-- the same for the texts up to an index, of which there is one with this index
next-line-at : (texts : List (Bor (List ℕ))) (i : ℕ) (d : Bor (List ℕ)) (lines : List NumberedLine) (asked : NumberedLine)
    → i < length texts → AreLines 1 (map (λ x. x.now) (take i texts)) lines → asked.number ≡ i + 1
    → AreLines 1 (map (λ x. x.now) (take (i + 1) texts)) (lines ++ asked ∷ [])
next-line-at texts i d lines asked low are is =
    let now : Bor (List ℕ) → List ℕ = λ x. x.now in
    let count : length (map now (take i texts)) ≡ i = length-map (take i texts) now ∙ length-take-le i texts (omega (arith, low)) in
    rw (take_more texts i d low, map_push now (take i texts) (get_or texts i d))
    (one-line-more 1 (map now (take i texts)) (get_or texts i d).now lines asked are (omega (arith, is, count)))

pub next-line : (texts : List (Bor (List ℕ))) (i : ℕ) (lines : List NumberedLine) (asked : NumberedLine)
    → i < length texts → AreLines 1 (map (λ x. x.now) (take i texts)) lines → asked.number ≡ i + 1
    → AreLines 1 (map (λ x. x.now) (take (i + 1) texts)) (lines ++ asked ∷ [])
next-line [] i lines asked low are is = absurd (omega (arith, low))
next-line (first ∷ rest) i lines asked low are is = next-line-at (first ∷ rest) i first lines asked low are is

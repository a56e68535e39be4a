-- A text has at most one reading, and none if it has an error.
use Rattle.std.proofs.Common.{◌≡◌, ℕ, List, [], ◌∷◌, ◌++◌, refl, sym, ◌∙◌, inl, inr}
use Rattle.a2_syntax.specs.Grammar.{IsLine}
use Rattle.a2_syntax.specs.Bare.{BareLine}
use Rattle.a2_syntax.specs.Sources.{AreLines, IsSource, IsSourceError}
use Rattle.a2_syntax.specs.declared.fault.Fault.{Fault}
use Rattle.a2_syntax.specs.declared.source.Line.{Line}
use Rattle.a2_syntax.proofs.LineLaws.{IsLine-one}

pub lines-parts : {A : Type 0} (text : List ℕ) (texts : List (List ℕ)) (lines : List (Line A)) → AreLines (text ∷ texts) lines
    → (line : Line A) × (more : List (Line A)) × (lines ≡ line ∷ more) × IsLine text line × AreLines texts more
lines-parts text texts [] h = absurd h
lines-parts text texts (line ∷ more) h = (line, more, refl, h.0, h.1)

pub AreLines-one : {A : Type 0} (texts : List (List ℕ)) (a b : List (Line A)) → AreLines texts a → AreLines texts b → a ≡ b
AreLines-one [] [] [] h k = refl
AreLines-one [] a (y ∷ ys) h k = absurd k
AreLines-one [] (x ∷ xs) b h k = absurd h
AreLines-one (t ∷ ts) a b h k =
    let (x, xs, e, is, more) = lines-parts t ts a h in
    let (y, ys, f, js, others) = lines-parts t ts b k in
    e ∙ (λ i. IsLine-one t x y is js i ∷ AreLines-one ts xs ys more others i) ∙ sym f

pub one-source : (text : List ℕ) (a b : List BareLine) → IsSource text a → IsSource text b → a ≡ b
one-source text a b h k = AreLines-one _ a b h.1 k.1

pub refused-none : (text : List ℕ) (fault : Fault) (source : List BareLine) → IsSourceError text fault → IsSource text source → ⊥
refused-none text fault source (inl e) (fits, lines) = cc
refused-none text fault source (inr (_, n, _, (before, line, after, whole, _, _, fails))) (_, lines) = let (l, is) = line-at before source (rw whole at lines) in fails l is
  where
    line-at : (before : List (List ℕ)) (source : List BareLine) → AreLines (before ++ line ∷ after) source → (l : BareLine) × IsLine line l
    line-at [] source h = let (l, _, _, is, _) = lines-parts _ _ source h in (l, is)
    line-at (b ∷ bs) source h = let (_, others, _, _, more) = lines-parts _ _ source h in line-at bs others more

-- One more element of a list that a loop visits.
use Rattle.std.specs.Prelude.{◌≡◌, ℕ, ◌+◌, ◌<◌, List, [], ◌∷◌, ◌++◌, length}
use Rattle.std.proofs.Common.{sym, ap, ◌∙◌, take, drop, get_or}
use Rattle.std.proofs.lemmas.List.{take_more, drop_more}

-- an element that is read splits its list
pub read : {X : Type 0} (xs : List X) (i : ℕ) (x : X) → i < length xs → x ≡ get_or xs i x
    → (get_or xs i x ≡ x) × (take (i + 1) xs ≡ take i xs ++ x ∷ []) × (drop i xs ≡ x ∷ drop (i + 1) xs)
read xs i x lt e =
    (sym e, take_more xs i x lt ∙ ap (λ y. take i xs ++ y ∷ []) (sym e), drop_more xs i x lt ∙ ap (λ y. y ∷ drop (i + 1) xs) (sym e))

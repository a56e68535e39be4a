-- What holds for one of the elements of a list.
use Rattle.std.proofs.Common.{◌≡◌, ◌⊎◌, ◌<◌, ℕ, zero, suc, List, [], ◌∷◌, length, inl, inr, refl, Any, Option, Some, None, MatchOption, arith}
use Rattle.std.specs.List.{slice_index_or}

pub any_here : {X : Type 0} {P : X → Type 0} (x : X) (xs : List X) → P x → Any P (x ∷ xs)
any_here x xs p = (0, x, omega arith, refl, p)

pub any_behind : {X : Type 0} {P : X → Type 0} (x : X) (xs : List X) → Any P xs → Any P (x ∷ xs)
any_behind x xs a = (suc a.0, a.1, omega (arith, a.2), a.3, a.4)

any_at : {X : Type 0} {P : X → Type 0} (x : X) (xs : List X) (k : ℕ) (y : X) → k < length (x ∷ xs) → slice_index_or (x ∷ xs) k y ≡ y → P y → P x ⊎ Any P xs
any_at x xs zero y lt is p = inl (rw is p)
any_at x xs (suc k) y lt is p = inr (k, y, omega (arith, lt), is, p)

pub any_split : {X : Type 0} {P : X → Type 0} (x : X) (xs : List X) → Any P (x ∷ xs) → P x ⊎ Any P xs
any_split x xs a = any_at x xs a.0 a.1 a.2 a.3 a.4

pub any_none : {X : Type 0} {P : X → Type 0} → Any P [] → ⊥
any_none a = absurd (omega (arith, a.2))

-- a cut has a first piece
pub first_piece : {T : Type 0} (o : Option T) (all : List (List ℕ)) (first : List ℕ) (more : T → List (List ℕ))
    → MatchOption o (all ≡ first ∷ []) (λ rest. all ≡ first ∷ more rest) → (others : List (List ℕ)) × (all ≡ first ∷ others)
first_piece None all first more e = ([], e)
first_piece (Some rest) all first more e = (more rest, e)

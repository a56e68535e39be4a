-- The keys that are typed after so many steps.
use Rattle.std.proofs.Common.{◌≡◌, ◌≢◌, ℕ, ◌+◌, ◌<◌, ◌≤◌, Bool, true, false, List, [], ◌∷◌, ◌++◌, length, take, drop, get_or, refl, sym, ap, ap₂, ◌∙◌, arith, cond, eqb, length-append}
use Rattle.std.proofs.lemmas.Bool.{eq-eqb, ne_eqb, cond-false, cond-true}
use Rattle.std.proofs.lemmas.List.{take_more, take-append-drop}
use Rattle.a2_timed_keys.specs.declared.strokes.Typed.{Typed}
use Rattle.a2_timed_keys.specs.Typed.{keys_at}

cond-append : (b : Bool) (k : ℕ) (xs ys zs : List ℕ) → xs ≡ ys ++ zs → cond b (k ∷ xs) xs ≡ cond b (k ∷ ys) ys ++ zs
cond-append true k xs ys zs e = ap (λ l. k ∷ l) e
cond-append false k xs ys zs e = e

pub keys_at-append : (xs ys : List Typed) (n : ℕ) → keys_at (xs ++ ys) n ≡ keys_at xs n ++ keys_at ys n
keys_at-append [] ys n = refl
keys_at-append (t ∷ ts) ys n = cond-append (eqb t.steps n) t.key _ _ _ (keys_at-append ts ys n)

pub keys_at-not : (t : Typed) (i : ℕ) → t.steps ≢ i → keys_at (t ∷ []) i ≡ []
keys_at-not t i ne = cond-false _ _ _ (ne_eqb t.steps i ne)

pub keys_at-here : (t : Typed) (i : ℕ) → t.steps ≡ i → keys_at (t ∷ []) i ≡ t.key ∷ []
keys_at-here t i e = cond-true _ _ _ (eq-eqb t.steps i e)

-- one key more of a list
pub keys_at-more : (log : List Typed) (i n : ℕ) (d : Typed) → i < length log
    → keys_at (take (i + 1) log) n ≡ keys_at (take i log) n ++ keys_at (get_or log i d ∷ []) n
keys_at-more log i n d low =
    ap (λ (l : List Typed). keys_at l n) (take_more log i d low) ∙ keys_at-append (take i log) (get_or log i d ∷ []) n

-- a front of a list has no more keys than the list
pub keys_at-front : (log : List Typed) (i n : ℕ) → length (keys_at (take i log) n) ≤ length (keys_at log n)
keys_at-front log i n =
    let whole : keys_at log n ≡ keys_at (take i log) n ++ keys_at (drop i log) n
    = ap (λ (l : List Typed). keys_at l n) (sym (take-append-drop i log)) ∙ keys_at-append (take i log) (drop i log) n in
    let long : length (keys_at log n) ≡ length (keys_at (take i log) n) + length (keys_at (drop i log) n)
    = ap (λ (l : List ℕ). length l) whole ∙ length-append (keys_at (take i log) n) (keys_at (drop i log) n) in
    omega (arith, long)

-- if no key of a front is typed, and the next key is not, then none of the longer front is
pub none_more : (log : List Typed) (i n : ℕ) (d : Typed) → i < length log → keys_at (take i log) n ≡ [] → keys_at (get_or log i d ∷ []) n ≡ []
    → keys_at (take (i + 1) log) n ≡ []
none_more log i n d low none next = keys_at-more log i n d low ∙ ap₂ (λ (x y : List ℕ). x ++ y) none next

-- The keys that were typed after a number of steps.
use Rattle.std.proofs.Common.{◌≡◌, ℕ, ◌<◌, ◌≤◌, List, [], ◌∷◌, ◌++◌, refl, ◌∙◌, arith}
use Rattle.std.proofs.lemmas.Bool.{ne_eqb, cond-false}
use Rattle.a2_timed_keys.specs.declared.strokes.Typed.{Typed}
use Rattle.a2_timed_keys.specs.Typed.{keys_at}
use Rattle.a2_play.specs.Played.{NoneAbove}

pub keys_at-past : (log : List Typed) (n i : ℕ) → NoneAbove n log → n < i → keys_at log i ≡ []
keys_at-past [] n i h l = refl
keys_at-past (t ∷ ts) n i h l =
    let ne : t.steps ≡ i → ⊥ = λ e. omega (arith, h.0, e, l) in
    cond-false _ _ _ (ne_eqb t.steps i ne) ∙ keys_at-past ts n i h.1 l

pub NoneAbove-push : (log : List Typed) (t : Typed) (n : ℕ) → NoneAbove n log → t.steps ≤ n → NoneAbove n (log ++ t ∷ [])
NoneAbove-push [] t n h l = (l, tt)
NoneAbove-push (x ∷ xs) t n h l = (h.0, NoneAbove-push xs t n h.1 l)

pub NoneAbove-weaker : (log : List Typed) (m n : ℕ) → m ≤ n → NoneAbove m log → NoneAbove n log
NoneAbove-weaker [] m n l h = tt
NoneAbove-weaker (t ∷ ts) m n l h = (omega (arith, h.0, l), NoneAbove-weaker ts m n l h.1)

-- A text has at most one error, and every text has either lines or an error.
use Rattle.std.proofs.Common.{◌≡◌, ℕ, ◌+◌, List, [], ◌∷◌, ◌++◌, length, drop, refl, sym, ap, ◌∙◌, inl, inr, subst, arith}
use Rattle.std.proofs.lemmas.Option.{none-some, same_Some}
use Rattle.a2_syntax.specs.Grammar.{IsLine}
use Rattle.a2_syntax.specs.Bare.{BareLine}
use Rattle.a2_syntax.specs.Sources.{AreLines, IsSource, IsSourceError, IsFirstBadLine}
use Rattle.a2_syntax.specs.Limits.{size_error}
use Rattle.a2_syntax.specs.declared.fault.Fault.{Fault}
use Rattle.a2_syntax.specs.declared.fault.Fault.TheVariants.{Syntax}
use Rattle.a2_syntax.proofs.OneReading.{lines-parts}
use Rattle.a2_syntax.proofs.Deciding.{told}

-- two readings of the lines stop at the same line
as-long : (b c : List (List ℕ)) (t u : List ℕ) (p q : List (List ℕ)) (r s : List BareLine) → b ++ t ∷ p ≡ c ++ u ∷ q → AreLines b r → AreLines c s
    → ((l : BareLine) → IsLine t l → ⊥) → ((l : BareLine) → IsLine u l → ⊥) → length b ≡ length c
as-long [] [] t u p q r s e br cs nt nu = refl
as-long [] (x ∷ c) t u p q r s e br cs nt nu = let first : x ≡ t = cc in let (l, _, _, is, _) = lines-parts _ _ s cs in absurd (nt l (subst (λ z. IsLine z l) first is))
as-long (x ∷ b) [] t u p q r s e br cs nt nu = let first : x ≡ u = cc in let (l, _, _, is, _) = lines-parts _ _ r br in absurd (nu l (subst (λ z. IsLine z l) first is))
as-long (x ∷ b) (y ∷ c) t u p q r s e br cs nt nu =
    let (_, more, _, _, following) = lines-parts _ _ r br in
    let (_, others, _, _, back) = lines-parts _ _ s cs in
    omega (arith, as-long b c t u p q more others (ap (drop 1) e) following back nt nu)

one-number : (texts : List (List ℕ)) (n m : ℕ) → IsFirstBadLine texts n → IsFirstBadLine texts m → n ≡ m
one-number texts n m (b, t, p, e, en, (r, br), nt) (c, u, q, f, em, (s, cs), nu) = omega (arith, en, em, as-long b c t u p q r s (sym e ∙ f) br cs nt nu)

pub one-refusal : (text : List ℕ) (f g : Fault) → IsSourceError text f → IsSourceError text g → f ≡ g
one-refusal text f g (inl a) (inl b) = same_Some f g (sym a ∙ b)
one-refusal text f g (inl a) (inr (b, n, e, u)) = absurd (none-some f (sym b ∙ a))
one-refusal text f g (inr (a, n, e, u)) (inl b) = absurd (none-some g (sym a ∙ b))
one-refusal text f g (inr (a, n, e, u)) (inr (b, m, h, v)) = e ∙ ap Syntax (one-number _ n m u v) ∙ sym h

no-gap : (texts : List (List ℕ)) → ((source : List BareLine) → AreLines texts source → ⊥) → ((n : ℕ) → IsFirstBadLine texts n → ⊥) → ⊥
no-gap [] none whole = none [] tt
no-gap (t ∷ ts) none whole =
    let unread : (l : BareLine) → IsLine t l → ⊥ =
    λ l is. no-gap ts (λ s ss. none (l ∷ s) (is, ss))
    (λ n u. let (b, x, p, e, en, (r, br), nx) = u in whole (n + 1) (t ∷ b, x, p, ap (λ z. t ∷ z) e, omega (arith, en), (l ∷ r, (is, br)), nx)) in
    whole 1 ([], t, ts, refl, refl, ([], tt), unread)

-- no text lacks both lines and an error
pub some-reading : (text : List ℕ) → ((source : List BareLine) → IsSource text source → ⊥) → ((f : Fault) → IsSourceError text f → ⊥) → ⊥
some-reading text none nothing = told (size_error text) (λ f e. nothing f (inl e))
    (λ e. no-gap _ (λ s is. none s (e, is)) (λ n u. nothing (Syntax n) (inr (e, n, refl, u))))

-- What parts make, one after another.
use Rattle.std.specs.Prelude.{◌≡◌, ◌<◌, ℕ, ◌+◌, List, [], ◌∷◌, ◌++◌, length, take, map, reverse, ◌≤◌, refl}
use Rattle.std.proofs.Common.{ap, sym, ◌∙◌, get_or}
use Rattle.std.proofs.lemmas.List.{map-append, reverse-append, take_more, take_all}
use Rattle.a2_promise.specs.declared.expr.Expr.{Expr}
use Rattle.a2_promise.specs.declared.parts.Part.{Part}
use Rattle.a2_promise.specs.Phrases.{Phrase, phrase_of}
use Rattle.a2_promise.specs.Reading.{made, made_by, stack_of}

pub none_made : (phrases : List Phrase) → made [] phrases ≡ phrases
unfolding made
none_made phrases = refl

pub made_both : (parts more : List Part) (phrases : List Phrase) → made (parts ++ more) phrases ≡ made more (made parts phrases)
unfolding made
made_both [] more phrases = refl
made_both (part ∷ parts) more phrases = made_both parts more (made_by part phrases)

pub made_one : (part : Part) (phrases : List Phrase) → made (part ∷ []) phrases ≡ made_by part phrases
unfolding made
made_one part phrases = refl

pub made_more : (parts : List Part) (i : ℕ) (d : Part) (phrases : List Phrase) → i < length parts
    → made (take (i + 1) parts) phrases ≡ made_by (get_or parts i d) (made (take i parts) phrases)
made_more parts i d phrases l = ap (λ parts. made parts phrases) (take_more parts i d l) ∙ made_both (take i parts) (get_or parts i d ∷ []) phrases
    ∙ made_one (get_or parts i d) (made (take i parts) phrases)

pub stack_top : (exprs : List Expr) (e : Expr) → stack_of (exprs ++ e ∷ []) ≡ phrase_of e ∷ stack_of exprs
stack_top exprs e = ap (λ phrases. reverse phrases) (map-append phrase_of exprs (e ∷ [])) ∙ reverse-append (map phrase_of exprs) (phrase_of e ∷ [])

-- the topmost expression of what parts made
pub popped : (parts : List Part) (n : ℕ) (exprs rest : List Expr) (top : Expr) → made (take n parts) [] ≡ stack_of exprs → length parts ≤ n
    → exprs ≡ rest ++ top ∷ [] → (more : List Phrase) × (made parts [] ≡ phrase_of top ∷ more)
popped parts n exprs rest top m l e =
    (stack_of rest, ap (λ parts. made parts []) (sym (take_all n parts l)) ∙ m ∙ ap stack_of e ∙ stack_top rest top)

-- Loops that read from the front. What is read so far, followed by any reading of the rest, is a reading of the
-- whole, and every reading of the whole arises this way.
use Rattle.std.proofs.Common.{List, [], ◌∷◌, ◌++◌, sym, subst}
use Rattle.std.proofs.lemmas.List.{append_assoc, append-nil}

pub record Leads {P X : Type 0} (R : P → List X → Type 0) (all rest : P) (done : List X) : Type 0 where
  pub back : (more : List X) → R rest more → R all (done ++ more)

pub leads-more : {P X : Type 0} {R : P → List X → Type 0} {all here rest : P} {done : List X} (x : X) → Leads R all here done
    → ((more : List X) → R rest more → R here (x ∷ more)) → Leads R all rest (done ++ x ∷ [])
leads-more {R = R} {all = all} {done = done} x l to = record { back = λ more h. subst (R all) (sym (append_assoc done (x ∷ []) more)) (l.back (x ∷ more) (to more h)) }

pub record Goes {P X : Type 0} (R : P → List X → Type 0) (all rest : P) (done : List X) : Type 0 where
  pub leads : Leads R all rest done
  pub only : (others : List X) → R all others → (more : List X) × R rest more

pub goes-more : {P X : Type 0} {R : P → List X → Type 0} {all here rest : P} {done : List X} (x : X) → Goes R all here done
    → ((more : List X) → R rest more → R here (x ∷ more)) → ((others : List X) → R here others → (more : List X) × R rest more)
    → Goes R all rest (done ++ x ∷ [])
goes-more x g to from = record { leads = leads-more x g.leads to; only = λ others h. (let (more, is) = g.only others h in from more is) }

pub goes-end : {P X : Type 0} {R : P → List X → Type 0} {all here : P} {done : List X} → Goes R all here done → R here [] → R all done
goes-end {R = R} {all = all} {done = done} g h = subst (R all) (append-nil done) (g.leads.back [] h)

pub goes-none : {P X : Type 0} {R : P → List X → Type 0} {all here : P} {done : List X} → Goes R all here done
    → ((more : List X) → R here more → ⊥) → (others : List X) → R all others → ⊥
goes-none g none others h = let (more, is) = g.only others h in none more is

-- The words and signs of a `changes` line determine what it names.
use Rattle.std.specs.Prelude.{◌≡◌, ℕ, true, nat_le, List, [], ◌∷◌, ◌++◌, codes, Option, Some}
use Rattle.std.specs.List.{list_all}
use Rattle.std.proofs.Common.{refl, sym, ap, subst, ◌∙◌}
use Rattle.std.proofs.lemmas.Option.{same_Some}
use Rattle.std.proofs.lemmas.Bool.{false≢true, and_parts}
use Rattle.a2_asm.specs.Values.{Names}
use Rattle.a2_promise.specs.declared.expr.Atom.{Atom}
use Rattle.a2_promise.specs.declared.expr.Atom.TheVariants.{A, Cycles, Steps}
use Rattle.a2_promise.specs.Tokens.{Token, word, sign}
use Rattle.a2_promise.specs.Written.{atom_name}
use Rattle.a2_promise.specs.Grammar.{address_of, is_just}
use Rattle.a2_promise.specs.PromisedTerms.{Change, held, byte, bytes, may_change, change_names, is_other_name, change_fits, change_spelled, more_spelled, AreChanges}
use Rattle.a2_promise.proofs.Finder.{named, Opening, it, opening_words}
use Rattle.a2_promise.proofs.Meanings.{atom_opens, just}
use Rattle.a2_promise.proofs.Inner.{parts4}

atom_in : Option Opening → Atom
atom_in (Some (it a)) = a
atom_in _ = A

-- the name of a register or flag determines it
same_atom : (a b : Atom) → atom_name a ≡ atom_name b → a ≡ b
unfolding atom_in
same_atom a b h =
    let is : Some (it a) ≡ Some (it b) = sym (atom_opens a) ∙ ap (λ name. named opening_words name) h ∙ atom_opens b in
    ap atom_in is

held_named : (a : Atom) → may_change a ≡ true → is_other_name change_names (word (atom_name a)) ≡ true → ⊥
held_named Cycles h k = false≢true h
held_named Steps h k = false≢true h
held_named _ h k = false≢true k

-- a token that is an address has a different name
not_held : (a : Atom) (token : Token) → may_change a ≡ true → is_other_name change_names token ≡ true
    → word (atom_name a) ≡ token → ⊥
not_held a token h k e = held_named a h (subst (λ (t : Token). is_other_name change_names t ≡ true) (sym e) k)

same_number : (names : Names) (token other : Token) (a b : ℕ) → token ≡ other → is_just a (address_of names token) ≡ true
    → is_just b (address_of names other) ≡ true → a ≡ b
same_number names token other a b e h k =
    same_Some a b (sym (just a (address_of names token) h) ∙ ap (λ t. address_of names t) e ∙ just b (address_of names other) k)

-- no range sign follows a single byte
no_range : (more : List Change) (token : Token) (rest : List Token) → more_spelled more ≡ sign (codes "..") ∷ token ∷ rest → ⊥
no_range [] token rest h = cc
no_range (change ∷ more) token rest h = cc

record AreSame (one other : Change) (more others : List Change) : Type 0 where
  first : one ≡ other
  rest : more_spelled more ≡ more_spelled others

first_same : (names : Names) (one other : Change) (more others : List Change) → change_fits names one ≡ true
    → change_fits names other ≡ true
    → change_spelled one ++ more_spelled more ≡ change_spelled other ++ more_spelled others → AreSame one other more others
first_same names (held a) (held b) more others h k e =
    let name : atom_name a ≡ atom_name b = cc in
    let rest : more_spelled more ≡ more_spelled others = cc in
    record { first = ap held (same_atom a b name); rest = rest }
first_same names (held a) (byte token b) more others h k e =
    let w = and_parts (is_other_name change_names token) (is_just b (address_of names token)) k in
    let named : word (atom_name a) ≡ token = cc in
    absurd (not_held a token h w.0 named)
first_same names (held a) (bytes token b last c) more others h k e =
    let w = parts4 (is_other_name change_names token) (is_just b (address_of names token)) (is_just c (address_of names last)) (nat_le b c) k in
    let named : word (atom_name a) ≡ token = cc in
    absurd (not_held a token h w.0 named)
first_same names (byte token a) (held b) more others h k e =
    let w = and_parts (is_other_name change_names token) (is_just a (address_of names token)) h in
    let named : word (atom_name b) ≡ token = cc in
    absurd (not_held b token k w.0 named)
first_same names (byte token a) (byte other b) more others h k e =
    let w = and_parts (is_other_name change_names token) (is_just a (address_of names token)) h in
    let v = and_parts (is_other_name change_names other) (is_just b (address_of names other)) k in
    let same : token ≡ other = cc in
    let number : a ≡ b = same_number names token other a b same w.1 v.1 in
    let rest : more_spelled more ≡ more_spelled others = cc in
    record { first = ap (λ t. byte t a) same ∙ ap (λ n. byte other n) number; rest = rest }
first_same names (byte token a) (bytes other b last c) more others h k e =
    let range : more_spelled more ≡ sign (codes "..") ∷ last ∷ more_spelled others = cc in
    absurd (no_range more last (more_spelled others) range)
first_same names (bytes token a last c) (held b) more others h k e =
    let w = parts4 (is_other_name change_names token) (is_just a (address_of names token)) (is_just c (address_of names last)) (nat_le a c) h in
    let named : word (atom_name b) ≡ token = cc in
    absurd (not_held b token k w.0 named)
first_same names (bytes token a last c) (byte other b) more others h k e =
    let range : more_spelled others ≡ sign (codes "..") ∷ last ∷ more_spelled more = cc in
    absurd (no_range others last (more_spelled more) range)
first_same names (bytes token a last c) (bytes other b end d) more others h k e =
    let w = parts4 (is_other_name change_names token) (is_just a (address_of names token)) (is_just c (address_of names last)) (nat_le a c) h in
    let v = parts4 (is_other_name change_names other) (is_just b (address_of names other)) (is_just d (address_of names end)) (nat_le b d) k in
    let same : token ≡ other = cc in
    let same_end : last ≡ end = cc in
    let number : a ≡ b = same_number names token other a b same w.1 v.1 in
    let number_end : c ≡ d = same_number names last end c d same_end w.2 v.2 in
    let rest : more_spelled more ≡ more_spelled others = cc in
    let whole : bytes token a last c ≡ bytes other b end d = cc in
    record { first = whole; rest = rest }

more_same : (names : Names) (more others : List Change) → list_all (change_fits names) more ≡ true
    → list_all (change_fits names) others ≡ true → more_spelled more ≡ more_spelled others → more ≡ others
more_same names [] [] h k e = refl
more_same names [] (other ∷ others) h k e = let never : ⊥ = cc in absurd never
more_same names (one ∷ more) [] h k e = let never : ⊥ = cc in absurd never
more_same names (one ∷ more) (other ∷ others) h k e =
    let w = and_parts (change_fits names one) (list_all (change_fits names) more) h in
    let v = and_parts (change_fits names other) (list_all (change_fits names) others) k in
    let following : change_spelled one ++ more_spelled more ≡ change_spelled other ++ more_spelled others = cc in
    let same = first_same names one other more others w.0 v.0 following in
    ap (λ c. c ∷ more) same.first ∙ ap (λ cs. other ∷ cs) (more_same names more others w.1 v.1 same.rest)

pub changes_same : (names : Names) (tokens : List Token) (one other : List Change) → AreChanges names tokens one
    → AreChanges names tokens other
    → one ≡ other
changes_same names tokens [] [] h k = refl
changes_same names tokens [] (other ∷ others) h k = absurd (k.2 h)
changes_same names tokens (one ∷ more) [] h k = absurd (h.2 k)
changes_same names tokens (one ∷ more) (other ∷ others) h k =
    let w = and_parts (change_fits names one) (list_all (change_fits names) more) h.1 in
    let v = and_parts (change_fits names other) (list_all (change_fits names) others) k.1 in
    let same = first_same names one other more others w.0 v.0 (sym h.0 ∙ k.0) in
    ap (λ c. c ∷ more) same.first ∙ ap (λ cs. other ∷ cs) (more_same names more others w.1 v.1 same.rest)

-- The nearest of some names is found from the first to the last.
use Rattle.std.proofs.Common.{◌≡◌, ◌<◌, ◌≤◌, ℕ, ltb, List, [], ◌∷◌, ◌++◌, fold, inl, inr, refl, sym, ap, subst, ◌∙◌, All, Option, Some, None, MatchOption, Bor, arith}
use Rattle.std.specs.Option.{option_copied}
use Rattle.std.proofs.lemmas.Bool.{cases_lt, cond-true, cond-false, lt-ltb, le-ltb}
use Rattle.std.proofs.lemmas.List.{append_assoc, append-nil}
use Rattle.std.proofs.lemmas.List.Elements.{All-nil, All-push, All-weaker}
use Rattle.a2_arguments.specs.Nearest.{edits, IsNearest}
use Rattle.a2_arguments.specs.Best.{Best, nearer}

-- three edits are too many
abbrev pub none_yet : Best
none_yet = record { found = None; bound = 3 }

abbrev pub nearest_from : List ℕ → Best → List (List ℕ) → Best
nearest_from name best names = fold (nearer name) best names

-- a name is the first of some that is so far
abbrev IsFirst : (List ℕ → ℕ) → List (List ℕ) → ℕ → List ℕ → Type 0
IsFirst far known bound found =
    (bound ≡ far found) × (bound < 3) × ((front : List (List ℕ)) × (following : List (List ℕ)) × (known ≡ front ++ found ∷ following) × All (λ other. bound < far other) front)

abbrev IsBest : (List ℕ → ℕ) → List (List ℕ) → Best → Type 0
IsBest far known best = All (λ other. best.bound ≤ far other) known × MatchOption best.found (best.bound ≡ 3) (IsFirst far known best.bound)

bound-low : (far : List ℕ → ℕ) (known : List (List ℕ)) (bound : ℕ) (found : Option (List ℕ)) → MatchOption found (bound ≡ 3) (IsFirst far known bound) → bound ≤ 3
bound-low far known bound None h = omega (arith, h)
bound-low far known bound (Some name) h = omega (arith, h.1)

first-more : (far : List ℕ → ℕ) (known : List (List ℕ)) (bound : ℕ) (next : List ℕ) (found : Option (List ℕ)) → MatchOption found (bound ≡ 3) (IsFirst far known bound)
    → MatchOption found (bound ≡ 3) (IsFirst far (known ++ next ∷ []) bound)
first-more far known bound next None h = h
first-more far known bound next (Some name) h =
    (h.0, h.1, (h.2.0, h.2.1 ++ next ∷ [], ap (λ x. x ++ next ∷ []) h.2.2 ∙ append_assoc h.2.0 (name ∷ h.2.1) (next ∷ []), h.2.3))

best-more : (name : List ℕ) (known : List (List ℕ)) (next : List ℕ) (best : Best) → IsBest (edits name) known best → IsBest (edits name) (known ++ next ∷ []) (nearer name best next)
best-more name known next best h =
    elim (cases_lt (edits name next) best.bound) [
      | inl lt ↦
          let low : edits name next < 3 = omega (arith, lt, bound-low (edits name) known best.bound best.found h.1) in
          rw (cond-true (ltb (edits name next) best.bound) (record { found = Some next; bound = edits name next }) best (lt-ltb (edits name next) best.bound lt)) (
            All-push (λ other. edits name next ≤ edits name other) known next
                (All-weaker (λ other. best.bound ≤ edits name other) (λ other. edits name next ≤ edits name other) (λ x p. omega (arith, p, lt)) known h.0) (omega arith),
            (refl, low, (known, [], refl, All-weaker (λ other. best.bound ≤ edits name other) (λ other. edits name next < edits name other) (λ x p. omega (arith, p, lt)) known h.0)),
          )
      | inr ge ↦
          rw (cond-false (ltb (edits name next) best.bound) (record { found = Some next; bound = edits name next }) best (le-ltb (edits name next) best.bound ge))
          (All-push (λ other. best.bound ≤ edits name other) known next h.0 ge, first-more (edits name) known best.bound next best.found h.1)
    ]

best-all : (name : List ℕ) (front known : List (List ℕ)) (best : Best) → IsBest (edits name) front best → IsBest (edits name) (front ++ known) (nearest_from name best known)
best-all name front [] best h = rw (append-nil front) h
best-all name front (next ∷ known) best h =
    rw (sym (append_assoc front (next ∷ []) known)) (best-all name (front ++ next ∷ []) known (nearer name best next) (best-more name front next best h))

answer : (name : List ℕ) (known : List (List ℕ)) (found : Option (Bor (List ℕ))) (bound : ℕ) → IsBest (edits name) known (record { found = option_copied found; bound = bound })
    → MatchOption found (All (λ other. 2 < edits name other) known) (λ x. IsNearest name known x.now × (edits name x.now ≤ 2))
answer name known None bound h = All-weaker (λ other. bound ≤ edits name other) (λ other. 2 < edits name other) (λ x p. omega (arith, p, h.1)) known h.0
answer name known (Some x) bound h = (
  record {
    before = h.1.2.0;
    after = h.1.2.1;
    names_are = h.1.2.2;
    none_nearer = All-weaker (λ other. bound ≤ edits name other) (λ other. edits name x.now ≤ edits name other) (λ y p. omega (arith, p, h.1.0)) known h.0;
    none_before = All-weaker (λ other. bound < edits name other) (λ other. edits name x.now < edits name other) (λ y p. omega (arith, p, h.1.0)) h.1.2.0 h.1.2.3;
  },
  omega (arith, h.1.0, h.1.1),
)

-- what was found of all names
pub nearest_found : (name : List ℕ) (known : List (List ℕ)) (found : Option (Bor (List ℕ))) (bound : ℕ)
    → record { found = option_copied found; bound = bound } ≡ nearest_from name none_yet known
    → MatchOption found (All (λ other. 2 < edits name other) known) (λ x. IsNearest name known x.now × (edits name x.now ≤ 2))
nearest_found name known found bound e =
    answer name known found bound (subst (IsBest (edits name) known) (sym e) (best-all name [] known none_yet (All-nil _, refl)))

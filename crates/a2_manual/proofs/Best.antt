-- The nearest of some names is found by comparing them from first to last.
use Rattle.std.proofs.Common.{◌≡◌, ◌<◌, ◌≤◌, ℕ, ltb, eqb, List, [], ◌∷◌, ◌++◌, fold, inl, inr, refl, sym, ap, subst, ◌∙◌, All, Option, Some, None, MatchOption, Bor, arith}
use Rattle.std.specs.List.{slice_split, flat_map, before_first}
use Rattle.std.specs.Option.{option_copied}
use Rattle.std.proofs.lemmas.Bool.{cases_lt, cond-true, cond-false, lt-ltb, le-ltb}
use Rattle.std.proofs.lemmas.List.{append_assoc, append-nil}
use Rattle.std.proofs.lemmas.List.Concat.{flat_map-cons}
use Rattle.std.proofs.lemmas.List.Elements.{All-nil, All-push, All-weaker}
use Rattle.a2_manual.specs.Topics.{topics, names}
use Rattle.a2_manual.specs.Nearest.{distance, all_names, IsNearest}
use Rattle.a2_manual.specs.Nearer.{Best, nearer, nearest_from}

-- a name is the first one at this distance
abbrev IsFirst : (List ℕ → ℕ) → List (List ℕ) → ℕ → List ℕ → Type 0
IsFirst far known bound found =
    (bound ≡ far found) × (bound < 3) × ((front : List (List ℕ)) × (following : List (List ℕ)) × (known ≡ front ++ found ∷ following) × All (λ other. bound < far other) front)

abbrev IsBest : (List ℕ → ℕ) → List (List ℕ) → Best → Type 0
IsBest far known best = All (λ other. best.bound ≤ far other) known × MatchOption best.found (best.bound ≡ 3) (IsFirst far known best.bound)

bound-low : (far : List ℕ → ℕ) (known : List (List ℕ)) (bound : ℕ) (found : Option (List ℕ)) → MatchOption found (bound ≡ 3) (IsFirst far known bound) → bound ≤ 3
bound-low far known bound None h = omega (arith, h)
bound-low far known bound (Some name) h = omega (arith, h.1)

first-more : (far : List ℕ → ℕ) (known : List (List ℕ)) (bound : ℕ) (next : List ℕ) (found : Option (List ℕ)) → MatchOption found (bound ≡ 3) (IsFirst far known bound)
    → MatchOption found (bound ≡ 3) (IsFirst far (known ++ next ∷ []) bound)
first-more far known bound next None h = h
first-more far known bound next (Some name) h =
    (h.0, h.1, (h.2.0, h.2.1 ++ next ∷ [], ap (λ x. x ++ next ∷ []) h.2.2 ∙ append_assoc h.2.0 (name ∷ h.2.1) (next ∷ []), h.2.3))

best-more : (far : List ℕ → ℕ) (known : List (List ℕ)) (next : List ℕ) (best : Best) → IsBest far known best → IsBest far (known ++ next ∷ []) (nearer best next (far next))
best-more far known next best h =
    elim (cases_lt (far next) best.bound) [
      | inl lt ↦
          let low : far next < 3 = omega (arith, lt, bound-low far known best.bound best.found h.1) in
          rw (cond-true (ltb (far next) best.bound) (record { found = Some next; bound = far next }) best (lt-ltb (far next) best.bound lt)) (
            All-push (λ other. far next ≤ far other) known next (All-weaker (λ other. best.bound ≤ far other) (λ other. far next ≤ far other) (λ x p. omega (arith, p, lt)) known h.0) (omega arith),
            (refl, low, (known, [], refl, All-weaker (λ other. best.bound ≤ far other) (λ other. far next < far other) (λ x p. omega (arith, p, lt)) known h.0)),
          )
      | inr ge ↦
          rw (cond-false (ltb (far next) best.bound) (record { found = Some next; bound = far next }) best (le-ltb (far next) best.bound ge))
          (All-push (λ other. best.bound ≤ far other) known next h.0 ge, first-more far known best.bound next best.found h.1)
    ]

best-all : (far : List ℕ → ℕ) (front known : List (List ℕ)) (best : Best) → IsBest far front best → IsBest far (front ++ known) (fold (λ b k. nearer b k (far k)) best known)
best-all far front [] best h = rw (append-nil front) h
best-all far front (next ∷ known) best h =
    rw (sym (append_assoc front (next ∷ []) known)) (best-all far (front ++ next ∷ []) known (nearer best next (far next)) (best-more far front next best h))

answer : (name : List ℕ) (known : List (List ℕ)) (found : Option (Bor (List ℕ))) (bound : ℕ) → IsBest (distance name) known (record { found = option_copied found; bound = bound })
    → MatchOption found (All (λ other. 2 < distance name other) known) (λ x. IsNearest name known x.now × (distance name x.now ≤ 2))
answer name known None bound h = All-weaker (λ other. bound ≤ distance name other) (λ other. 2 < distance name other) (λ x p. omega (arith, p, h.1)) known h.0
answer name known (Some x) bound h = (
  record {
    front = h.1.2.0;
    following = h.1.2.1;
    names_are = h.1.2.2;
    none_nearer = All-weaker (λ other. bound ≤ distance name other) (λ other. distance name x.now ≤ distance name other) (λ y p. omega (arith, p, h.1.0)) known h.0;
    none_before = All-weaker (λ other. bound < distance name other) (λ other. distance name x.now < distance name other) (λ y p. omega (arith, p, h.1.0)) h.1.2.0 h.1.2.3;
  },
  omega (arith, h.1.0, h.1.1),
)

-- what was found after all names were compared
pub nearest-found : (name : List ℕ) (known : List (List ℕ)) (found : Option (Bor (List ℕ))) (bound : ℕ)
    → record { found = option_copied found; bound = bound } ≡ fold (λ b k. nearer b k (distance name k)) (record { found = None; bound = 3 }) known
    → MatchOption found (All (λ other. 2 < distance name other) known) (λ x. IsNearest name known x.now × (distance name x.now ≤ 2))
nearest-found name known found bound e =
    answer name known found bound (subst (IsBest (distance name) known) (sym e) (best-all (distance name) [] known (record { found = None; bound = 3 }) (All-nil _, refl)))

-- the names of the last topic were compared
pub last-topic : (capitals left manual topic head : List ℕ) (start before after : Best) → topics left ≡ topic ∷ [] → head ≡ before_first (λ c. eqb c 0x0A) topic
    → after ≡ nearest_from capitals before (slice_split (λ c. eqb c 0x2C) head)
    → nearest_from capitals before (flat_map names (topics left)) ≡ nearest_from capitals start (all_names manual)
    → after ≡ nearest_from capitals start (all_names manual)
last-topic capitals left manual topic head start before after one is found all =
    let same : flat_map names (topics left) ≡ slice_split (λ c. eqb c 0x2C) head = ap (flat_map names) one ∙ flat_map-cons names topic [] ∙ append-nil (names topic) ∙ ap (slice_split (λ c. eqb c 0x2C)) (sym is) in
    found ∙ ap (nearest_from capitals before) (sym same) ∙ all

-- The same stores, stated for lists in another order.
use Rattle.std.specs.Prelude.{◌≡◌, ◌≢◌, ℕ, Bool, true, ◌||◌, ◌==◌, IsTrue, List, [], ◌∷◌, ◌++◌}
use Rattle.std.proofs.Common.{sym, ap, ◌∙◌, arith, true≢false}
use Rattle.std.proofs.lemmas.Bool.Decides.{nat_tests}
use Rattle.a2_text.specs.Bytes.{is_among}
use Rattle.a2_bus.specs.Memory.{Memory}
use Rattle.a2_cpu.specs.Stores.{IsNotIn}
use Rattle.a2_footprint.specs.Reads.{Knows, with_bytes}
use Rattle.a2_footprint.proofs.Agreeing.{among_or}
use Rattle.a2_footprint.proofs.Cells.{known_among, not_in_among}
use Rattle.a2_footprint.proofs.Nearing.{knows-append}
use Rattle.a2_footprint.proofs.Storing.{Stored, stored_as}

-- what is known of each item of a list is still known if more is known
pub knows_where : (known next : ℕ → Bool) (xs : List ℕ) → ((a : ℕ) → IsTrue (known a) → IsTrue (next a)) → Knows known xs → Knows next xs
knows_where known next [] more h = tt
knows_where known next (x ∷ xs) more h = (more x h.0, knows_where known next xs more h.1)

pub among_self : (xs : List ℕ) → Knows (is_among xs) xs
among_self [] = tt
among_self (x ∷ xs) =
    let e : (x == x) ≡ true = grind (arith, nat_tests) in
    (ap (λ b. b || is_among xs x) e, knows_where (is_among xs) (is_among (x ∷ xs)) xs (λ a h. among_or (x == a) (is_among xs a) h) (among_self xs))

-- an item that is not in a list differs from every item of the list
other_than : (xs : List ℕ) (a b : ℕ) → IsTrue (is_among xs a) → IsNotIn b xs → b ≢ a
other_than xs a b among out e = true≢false (sym among ∙ ap (λ c. is_among xs c) (sym e) ∙ not_in_among b xs out)

not_in_part : (some more : List ℕ) (b : ℕ) → Knows (is_among more) some → IsNotIn b more → IsNotIn b some
not_in_part [] more b h out = tt
not_in_part (x ∷ xs) more b h out = (other_than more x b h.0 out, not_in_part xs more b h.1 out)

pub knows_both : (known : ℕ → Bool) (xs ys : List ℕ) → Knows known xs → Knows known ys → Knows known (xs ++ ys)
knows_both known [] ys h g = g
knows_both known (x ∷ xs) ys h g = (h.0, knows_both known xs ys h.1 g)

-- what is stored is known
pub knows_stored : (known : ℕ → Bool) (stores xs : List ℕ) → Knows (is_among stores) xs → Knows (with_bytes stores known) xs
knows_stored known stores xs h = knows_where (is_among stores) (with_bytes stores known) xs (λ a among. ap (λ b. b || known a) among) h

-- Another list of stores, each of which was known before or is in the first list
pub stored_within : (known : ℕ → Bool) (some more : List ℕ) (m n new_m new_n : Memory) → Knows (with_bytes some known) more → Knows (is_among more) some
    → Stored known some m n new_m new_n → Stored known more m n new_m new_n
stored_within known some more m n new_m new_n shown part h =
    stored_as known some more m n new_m new_n (λ a among. known_among (with_bytes some known) more a shown among)
    (λ b out. not_in_part some more b part out) h

-- the same addresses in another order
pub stored_same : (known : ℕ → Bool) (some more : List ℕ) (m n new_m new_n : Memory) → Knows (is_among some) more → Knows (is_among more) some
    → Stored known some m n new_m new_n → Stored known more m n new_m new_n
stored_same known some more m n new_m new_n shown part h =
    stored_within known some more m n new_m new_n (knows_stored known some more shown) part h

pub stored_swapped : (known : ℕ → Bool) (first second : List ℕ) (m n new_m new_n : Memory) → Stored known (first ++ second) m n new_m new_n
    → Stored known (second ++ first) m n new_m new_n
stored_swapped known first second m n new_m new_n h =
    stored_same known (first ++ second) (second ++ first) m n new_m new_n (swapped first second) (swapped second first) h
  where
    swapped : (xs ys : List ℕ) → Knows (is_among (xs ++ ys)) (ys ++ xs)
    swapped xs ys =
        let both : Knows (is_among (xs ++ ys)) xs × Knows (is_among (xs ++ ys)) ys = knows-append (is_among (xs ++ ys)) xs ys (among_self (xs ++ ys)) in
        knows_both (is_among (xs ++ ys)) ys xs both.1 both.0

-- Marks, and registers and flags that are known.
use Rattle.std.specs.Prelude.{◌≡◌, ◌≢◌, ◌⊎◌, ◌<◌, ◌≤◌, ℕ, zero, suc, ◌+◌, ◌-◌, ◌%◌, ◌==◌, ◌||◌, ◌&&◌, nat_le, nat_lt, Bool, true, false, IsTrue, List, [], ◌∷◌, ◌++◌, length, map, slice_set, refl}
use Rattle.std.specs.List.{flat_map}
use Rattle.std.proofs.Common.{sym, ap, ◌∙◌, subst, arith, true≢false}
use Rattle.std.proofs.lemmas.Bool.Decides.{nat_tests}
use Rattle.std.proofs.Math.Bool.{or-false}
use Rattle.std.proofs.lemmas.List.{append-nil, map-id}
use Rattle.std.proofs.lemmas.List.Concat.{flat_map_single}
use Rattle.std.proofs.lemmas.List.Folds.{list_any-append}
use Rattle.std.proofs.lemmas.Grind.{flat_map-append}
use Rattle.a2_text.specs.Bytes.{is_among}
use Rattle.a2_page.specs.Cells.{numbers_from}
use Rattle.a2_footprint.specs.declared.Part.{Part}
use Rattle.a2_footprint.specs.declared.Part.TheVariants.{A as part_a, X as part_x, Y as part_y, N as part_n, V as part_v, D as part_d, I as part_i, Z as part_z, C as part_c}
use Rattle.a2_footprint.specs.Parts.{is_part}
use Rattle.a2_footprint.specs.RotatedStack.{in_stack}
use Rattle.a2_promise_certify.specs.declared.known_parts.KnownParts.{KnownParts}
use Rattle.a2_promise.specs.declared.promises.Changes.{Changes}
use Rattle.a2_promise_certify.specs.Kept.{is_own}
use Rattle.a2_promise_certify.specs.Walking.{AreMarked, MayStore, is_allowed, is_set, knows_part, with_part}

-- Parts

pub added : (part p : Part) (parts : KnownParts) → knows_part (with_part part parts) p ≡ (is_part p part || knows_part parts p)
added part_a part_a parts = refl
added part_a p parts = refl
added part_x part_x parts = refl
added part_x p parts = refl
added part_y part_y parts = refl
added part_y p parts = refl
added part_n part_n parts = refl
added part_n p parts = refl
added part_v part_v parts = refl
added part_v p parts = refl
added part_d part_d parts = refl
added part_d p parts = refl
added part_i part_i parts = refl
added part_i p parts = refl
added part_z part_z parts = refl
added part_z p parts = refl
added part_c part_c parts = refl
added part_c p parts = refl

regroup : (here before known : Bool) → (here || (before || known)) ≡ ((before || here) || known)
regroup true true known = refl
regroup true false known = refl
regroup false before known = or_false before
  where
    or_false : (b : Bool) → (b || known) ≡ ((b || false) || known)
    or_false true = refl
    or_false false = refl

-- one more part
pub learned : (part p : Part) (parts : KnownParts) (before known : Bool) → knows_part parts p ≡ (before || known)
    → knows_part (with_part part parts) p ≡ ((before || is_part p part) || known)
learned part p parts before known e =
    added part p parts ∙ ap (λ v. is_part p part || v) e ∙ regroup (is_part p part) before known

-- Marks

-- With S = $FD, the routine's own bytes of the stack are from $180 to $1FD.
pub own_is : (a : ℕ) → (nat_le 0x180 a && nat_le a 0x1FD) ≡ is_own 0xFD a
own_is a = go (in_stack a) refl
  where
    low : in_stack a ≡ true → 0x100 ≤ a
    low is = grind (arith, nat_tests, is)

    high : in_stack a ≡ true → a ≤ 0x1FF
    high is = grind (arith, nat_tests, is)

    place : 0x100 ≤ a → a ≤ 0x1FF → (a < 0x180) ⊎ (((0x180 ≤ a) × (a ≤ 0x1FD)) ⊎ (0x1FD < a))
    place low high = grind (arith, low, high)

    by_place : in_stack a ≡ true → (a < 0x180) ⊎ (((0x180 ≤ a) × (a ≤ 0x1FD)) ⊎ (0x1FD < a))
        → (nat_le 0x180 a && nat_le a 0x1FD) ≡ nat_lt ((0xFD + 0x200 - a) % 256) 126
    by_place is h = grind (arith, nat_tests, is, h)

    elsewhere : in_stack a ≡ false → (nat_le 0x180 a && nat_le a 0x1FD) ≡ false
    elsewhere is = grind (arith, nat_tests, is)

    go : (stacked : Bool) → in_stack a ≡ stacked → (nat_le 0x180 a && nat_le a 0x1FD) ≡ is_own 0xFD a
    go true is = by_place is (place (low is) (high is)) ∙ ap (λ v. v && nat_lt ((0xFD + 0x200 - a) % 256) 126) (sym is)
    go false is = elsewhere is ∙ ap (λ v. v && nat_lt ((0xFD + 0x200 - a) % 256) 126) (sym is)

pub marked : (xs : List Bool) (i a : ℕ) → i < length xs → is_set (slice_set xs i true) a ≡ ((i == a) || is_set xs a)
marked [] i a lt = let bad : ⊥ = omega (arith, lt) in absurd bad
marked (x ∷ xs) zero zero lt = let e : (0 == 0) ≡ true = grind (arith, nat_tests) in ap (λ b. b || x) (sym e)
marked (x ∷ xs) zero (suc a) lt = let e : (0 == suc a) ≡ false = grind (arith, nat_tests) in ap (λ b. b || is_set xs a) (sym e)
marked (x ∷ xs) (suc i) zero lt = let e : (suc i == 0) ≡ false = grind (arith, nat_tests) in ap (λ b. b || x) (sym e)
marked (x ∷ xs) (suc i) (suc a) lt =
    let low : i < length xs = omega (arith, lt) in
    let e : (i == a) ≡ (suc i == suc a) = grind (arith, nat_tests) in
    marked xs i a low ∙ ap (λ b. b || is_set xs a) e

same_number : (m n : ℕ) → IsTrue ((m == n) || false) → n ≡ m
same_number m n is = go (m == n) refl is
  where
    go : (same : Bool) → (m == n) ≡ same → (same || false) ≡ true → n ≡ m
    go true e _ = grind (arith, nat_tests, e)
    go false _ bad = absurd (true≢false (sym bad))

pub one_marked : (old new : List Bool) (changes : Changes) (a : ℕ) → ((b : ℕ) → is_set new b ≡ ((a == b) || is_set old b))
    → is_allowed changes a ≡ true → a ≢ 0x1FE → a ≢ 0x1FF → AreMarked old new changes (a ∷ [])
one_marked old new changes a marks allowed first second = record {
  marks = λ b. marks b ∙ ap (λ v. v || is_set old b) (sym (or-false (a == b)));
  allowed = λ b among. subst (λ n. MayStore changes n) (sym (same_number a b among)) (allowed, first, second);
}

-- some addresses, and then more
pub both_marked : (old between new : List Bool) (changes : Changes) (xs ys : List ℕ) → AreMarked old between changes xs
    → AreMarked between new changes ys → AreMarked old new changes (xs ++ ys)
both_marked old between new changes xs ys first second = record {
  marks = λ a.
      second.marks a ∙ ap (λ v. is_among ys a || v) (first.marks a) ∙ regroup (is_among ys a) (is_among xs a) (is_set old a)
      ∙ ap (λ v. v || is_set old a) (sym (list_any-append (λ m. m == a) xs ys));
  allowed = λ a among. either a (is_among xs a) refl (sym (list_any-append (λ m. m == a) xs ys) ∙ among);
}
  where
    either : (a : ℕ) (here : Bool) → is_among xs a ≡ here → (here || is_among ys a) ≡ true → MayStore changes a
    either a true is _ = first.allowed a is
    either a false _ among = second.allowed a among

-- Marks for each number

numbers_more : (first count : ℕ) → numbers_from first count ++ (first + count) ∷ [] ≡ numbers_from first (suc count)
numbers_more first zero = let e : first + 0 ≡ first = omega arith in ap (λ n. n ∷ []) e
numbers_more first (suc count) =
    let e : first + suc count ≡ suc first + count = omega arith in
    ap (λ n. first ∷ numbers_from (suc first) count ++ n ∷ []) e ∙ ap (λ ns. first ∷ ns) (numbers_more (suc first) count)

-- the marks of one more number
pub more_marked : (old between new : List Bool) (changes : Changes) (f : ℕ → List ℕ) (first count : ℕ)
    → AreMarked old between changes (flat_map f (numbers_from first count)) → AreMarked between new changes (f (first + count))
    → AreMarked old new changes (flat_map f (numbers_from first (count + 1)))
more_marked old between new changes f first count some one =
    let next : suc count ≡ count + 1 = omega arith in
    subst (AreMarked old new changes)
    (ap (λ ns. flat_map f (numbers_from first count) ++ ns) (sym (append-nil (f (first + count))))
    ∙ sym (flat_map-append f (numbers_from first count) ((first + count) ∷ []))
    ∙ ap (flat_map f) (numbers_more first count ∙ ap (numbers_from first) next))
    (both_marked old between new changes (flat_map f (numbers_from first count)) (f (first + count)) some one)

-- A list of each number by itself is the list of the numbers.
pub each_alone : (first count : ℕ) → flat_map (λ a. a ∷ []) (numbers_from first count) ≡ numbers_from first count
each_alone first count = flat_map_single (λ a. a) (numbers_from first count) ∙ map-id (numbers_from first count)

-- the numbers that follow another number
pub numbers_behind : (start first count : ℕ) → numbers_from (start + first) count ≡ map (λ n. start + n) (numbers_from first count)
numbers_behind start first zero = refl
numbers_behind start first (suc count) =
    let next : suc (start + first) ≡ start + suc first = omega arith in
    ap (λ ns. (start + first) ∷ ns) (ap (λ n. numbers_from n count) next ∙ numbers_behind start (suc first) count)

-- Ranges of addresses: what is in one of several ranges, and what is outside all of them.
use Rattle.std.specs.Prelude.{◌≡◌, ◌≢◌, ◌⊎◌, ◌<◌, ◌≤◌, ℕ, zero, suc, ◌+◌, ◌-◌, ◌==◌, nat_le, nat_lt, Bool, true, false, ◌&&◌, ◌||◌, List, [], ◌∷◌, ◌++◌, refl}
use Rattle.std.specs.List.{list_all, list_any}
use Rattle.std.proofs.Common.{sym, ap, ap₂, ◌∙◌, subst, arith, inl, inr, true≢false, append_assoc}
use Rattle.std.proofs.lemmas.Bool.Decides.{nat_tests}
use Rattle.a2_text.specs.Bytes.{is_among}
use Rattle.a2_page.specs.Cells.{numbers_from}
use Rattle.a2_bus.specs.Memory.{Memory, ram_byte}
use Rattle.a2_services.specs.World.{World}
use Rattle.a2_theorems.specs.Routines.{entered}
use Rattle.a2_promise_rules.proofs.Leaving.{Leaves}

pub both : (x y : Bool) → (x && y) ≡ true → (x ≡ true) × (y ≡ true)
both true y h = (refl, h)
both false y h = absurd (true≢false (sym h))

le_of : (m n : ℕ) → nat_le m n ≡ true → m ≤ n
le_of m n is = grind (arith, nat_tests, is)

or_yes : (x y : Bool) → (x || y) ≡ true → (x ≡ true) ⊎ (y ≡ true)
or_yes true y h = inl refl
or_yes false y h = inr h

or_right : (x : Bool) → (x || true) ≡ true
or_right true = refl
or_right false = refl

-- an address is in one of several ranges, each given by its first and its last address
abbrev pub is_in : List (ℕ × ℕ) → ℕ → Bool
is_in ranges a = list_any (λ range. nat_le range.0 a && nat_le a range.1) ranges

-- a range is inside one of several
abbrev pub has_range : List (ℕ × ℕ) → ℕ × ℕ → Bool
has_range ranges inner = list_any (λ range. nat_le range.0 inner.0 && nat_le inner.1 range.1) ranges

-- a range is outside another
abbrev pub is_beside : (low high : ℕ) → ℕ × ℕ → Bool
is_beside low high range = nat_lt range.1 low || nat_lt high range.0

within : (range : ℕ × ℕ) (low high a : ℕ) → (nat_le range.0 low && nat_le high range.1) ≡ true → low ≤ a → a ≤ high
    → (nat_le range.0 a && nat_le a range.1) ≡ true
within range low high a h from to =
    let two = both (nat_le range.0 low) (nat_le high range.1) h in
    let first : range.0 ≤ low = le_of range.0 low two.0 in
    let last : high ≤ range.1 = le_of high range.1 two.1 in
    let begins : nat_le range.0 a ≡ true = grind (arith, nat_tests, first, from) in
    let ends : nat_le a range.1 ≡ true = grind (arith, nat_tests, last, to) in
    ap₂ (λ x y. x && y) begins ends

beside : (range : ℕ × ℕ) (low high a : ℕ) → is_beside low high range ≡ true → low ≤ a → a ≤ high
    → (nat_le range.0 a && nat_le a range.1) ≡ false
beside range low high a h from to = go (or_yes _ _ h)
  where
    and_false : (x : Bool) → (x && false) ≡ false
    and_false true = refl
    and_false false = refl

    go : (nat_lt range.1 low ≡ true) ⊎ (nat_lt high range.0 ≡ true) → (nat_le range.0 a && nat_le a range.1) ≡ false
    go (inl e) =
        let less : range.1 < low = grind (arith, nat_tests, e) in
        let no : nat_le a range.1 ≡ false = grind (arith, nat_tests, less, from) in
        ap (λ y. nat_le range.0 a && y) no ∙ and_false (nat_le range.0 a)
    go (inr e) =
        let less : high < range.0 = grind (arith, nat_tests, e) in
        let no : nat_le range.0 a ≡ false = grind (arith, nat_tests, less, to) in
        ap (λ x. x && nat_le a range.1) no

-- an address of a range that is inside one of several
pub in_ranges : (ranges : List (ℕ × ℕ)) (low high a : ℕ) → has_range ranges (low, high) ≡ true → low ≤ a → a ≤ high → is_in ranges a ≡ true
in_ranges [] low high a h from to = h
in_ranges (range ∷ more) low high a h from to = go (or_yes _ _ h) (λ e. in_ranges more low high a e from to)
  where
    go : ((nat_le range.0 low && nat_le high range.1) ≡ true) ⊎ (has_range more (low, high) ≡ true)
        → (has_range more (low, high) ≡ true → is_in more a ≡ true) → ((nat_le range.0 a && nat_le a range.1) || is_in more a) ≡ true
    go (inl e) rest = ap (λ b. b || is_in more a) (within range low high a e from to)
    go (inr e) rest =
        ap (λ b. (nat_le range.0 a && nat_le a range.1) || b) (rest e) ∙ or_right (nat_le range.0 a && nat_le a range.1)

-- an address of a range that is outside all of several
pub out_of_ranges : (ranges : List (ℕ × ℕ)) (low high a : ℕ) → list_all (is_beside low high) ranges ≡ true → low ≤ a → a ≤ high
    → is_in ranges a ≡ false
out_of_ranges [] low high a h from to = refl
out_of_ranges (range ∷ more) low high a h from to =
    let two = both _ _ h in
    ap₂ (λ x y. x || y) (beside range low high a two.0 from to) (out_of_ranges more low high a two.1 from to)

-- an address of a range that contains none of these addresses
pub not_among : (ns : List ℕ) (low high a : ℕ) → list_all (λ n. nat_lt n low || nat_lt high n) ns ≡ true → low ≤ a → a ≤ high
    → is_among ns a ≡ false
not_among [] low high a h from to = refl
not_among (n ∷ ns) low high a h from to =
    let two = both _ _ h in
    ap₂ (λ x y. x || y) (go (or_yes _ _ two.0)) (not_among ns low high a two.1 from to)
  where
    go : (nat_lt n low ≡ true) ⊎ (nat_lt high n ≡ true) → (n == a) ≡ false
    go (inl e) = let less : n < low = grind (arith, nat_tests, e) in grind (arith, nat_tests, less, from)
    go (inr e) = let less : high < n = grind (arith, nat_tests, e) in grind (arith, nat_tests, less, to)

-- an address outside several ranges is outside all ranges inside them
pub in_none_of : (ranges inner : List (ℕ × ℕ)) (a : ℕ) → list_all (has_range ranges) inner ≡ true → is_in ranges a ≡ false → is_in inner a ≡ false
in_none_of ranges [] a all out = refl
in_none_of ranges (range ∷ more) a all out = by (nat_le range.0 a && nat_le a range.1) refl (in_none_of ranges more a two.1 out)
  where
    two : (has_range ranges range ≡ true) × (list_all (has_range ranges) more ≡ true)
    two = both _ _ all

    by : (v : Bool) → (nat_le range.0 a && nat_le a range.1) ≡ v → is_in more a ≡ false
        → ((nat_le range.0 a && nat_le a range.1) || is_in more a) ≡ false
    by true is _ =
        let both_are = both (nat_le range.0 a) (nat_le a range.1) is in
        absurd (true≢false (sym (in_ranges ranges range.0 range.1 a two.0 (le_of _ _ both_are.0) (le_of _ _ both_are.1)) ∙ out))
    by false is rest = ap₂ (λ x y. x || y) is rest

-- each address of several ranges passes a test
abbrev pub all_pass : (ℕ → Bool) → List (ℕ × ℕ) → Bool
all_pass allowed ranges = list_all (λ range. list_all allowed (numbers_from range.0 (range.1 + 1 - range.0))) ranges

-- an address that does not pass the test is outside all of them
pub passes_not : (allowed : ℕ → Bool) (ranges : List (ℕ × ℕ)) (a : ℕ) → all_pass allowed ranges ≡ true → allowed a ≡ false → is_in ranges a ≡ false
passes_not allowed [] a all out = refl
passes_not allowed (range ∷ more) a all out = by (nat_le range.0 a && nat_le a range.1) refl (passes_not allowed more a two.1 out)
  where
    two : (list_all allowed (numbers_from range.0 (range.1 + 1 - range.0)) ≡ true) × (all_pass allowed more ≡ true)
    two = both _ _ all

    at_first : (at : ℕ) (v : Bool) → (at == a) ≡ v → allowed at ≡ true → at ≤ a → (suc at ≤ a → allowed a ≡ true) → allowed a ≡ true
    at_first at true is passes low later = let e : at ≡ a = grind (arith, nat_tests, is) in subst (λ k. allowed k ≡ true) e passes
    at_first at false is passes low later = let e : at ≢ a = grind (arith, nat_tests, is) in later (omega (arith, e, low))

    each : (n at : ℕ) → list_all allowed (numbers_from at n) ≡ true → at ≤ a → a < at + n → allowed a ≡ true
    each zero at all low high = let never : ⊥ = omega (arith, low, high) in absurd never
    each (suc n) at all low high =
        at_first at (at == a) refl (both _ _ all).0 low (λ l. each n (suc at) (both _ _ all).1 l (omega (arith, high)))

    by : (v : Bool) → (nat_le range.0 a && nat_le a range.1) ≡ v → is_in more a ≡ false
        → ((nat_le range.0 a && nat_le a range.1) || is_in more a) ≡ false
    by true is _ =
        let both_are = both (nat_le range.0 a) (nat_le a range.1) is in
        let from : range.0 ≤ a = le_of _ _ both_are.0 in
        let to : a ≤ range.1 = le_of _ _ both_are.1 in
        absurd (true≢false (sym (each (range.1 + 1 - range.0) range.0 two.0 from (omega (arith, from, to))) ∙ out))
    by false is rest = ap₂ (λ x y. x || y) is rest

-- what is unchanged outside some ranges: up to a middle memory, and then after it
pub leaves_further : (memory middle : Memory) (ranges inner : List (ℕ × ℕ)) (taken more : List ℕ) (v : World)
    → Leaves middle (is_in inner) more v → list_all (has_range ranges) inner ≡ true
    → Leaves memory (is_in ranges) taken (entered 0 middle) → Leaves memory (is_in ranges) (taken ++ more) v
leaves_further memory middle ranges inner taken more v following all before = record {
  bytes = λ a h. following.bytes a (in_none_of ranges inner a all h) ∙ before.bytes a h;
  keys = before.keys ∙ ap (λ keys. taken ++ keys) following.keys ∙ sym (append_assoc taken more v.memory.devices.keys);
}

-- a byte at an address of a range that is outside those that may change
pub kept_beside : {taken : List ℕ} (memory : Memory) (ranges : List (ℕ × ℕ)) (v : World) (low high a : ℕ)
    → Leaves memory (is_in ranges) taken v → list_all (is_beside low high) ranges ≡ true → low ≤ a → a ≤ high → ram_byte v.memory a ≡ ram_byte memory a
kept_beside memory ranges v low high a keeps all from to = keeps.bytes a (out_of_ranges ranges low high a all from to)

-- a byte of a range is unchanged, or it is in the first range given here, if all other ranges that may change are
-- outside its own
pub kept_or_in : {taken : List ℕ} (memory : Memory) (ranges : List (ℕ × ℕ)) (v : World) (first last low high a : ℕ)
    → Leaves memory (is_in ranges) taken v
    → list_all (λ range. (nat_le first range.0 && nat_le range.1 last) || is_beside low high range) ranges ≡ true → low ≤ a → a ≤ high
    → ((first ≤ a) × (a ≤ last)) ⊎ (ram_byte v.memory a ≡ ram_byte memory a)
kept_or_in memory ranges v first last low high a keeps all from to = by (is_in ranges a) refl
  where
    here : (range : ℕ × ℕ) → (nat_le range.0 a && nat_le a range.1) ≡ true
        → ((nat_le first range.0 && nat_le range.1 last) ≡ true) ⊎ (is_beside low high range ≡ true) → (first ≤ a) × (a ≤ last)
    here range h (inl e) =
        let outer = both (nat_le first range.0) (nat_le range.1 last) e in
        let inner = both (nat_le range.0 a) (nat_le a range.1) h in
        let p = le_of first range.0 outer.0 in
        let q = le_of range.1 last outer.1 in
        let r = le_of range.0 a inner.0 in
        let s = le_of a range.1 inner.1 in
        (omega (arith, p, r), omega (arith, q, s))
    here range h (inr e) = absurd (true≢false (sym h ∙ beside range low high a e from to))

    one : (range : ℕ × ℕ) (more : List (ℕ × ℕ)) → ((nat_le first range.0 && nat_le range.1 last) || is_beside low high range) ≡ true
        → ((nat_le range.0 a && nat_le a range.1) ≡ true) ⊎ (is_in more a ≡ true) → (is_in more a ≡ true → (first ≤ a) × (a ≤ last))
        → (first ≤ a) × (a ≤ last)
    one range more all (inl here_is) rest = here range here_is (or_yes _ _ all)
    one range more all (inr later) rest = rest later

    inside : (ranges : List (ℕ × ℕ)) → list_all (λ range. (nat_le first range.0 && nat_le range.1 last) || is_beside low high range) ranges ≡ true
        → is_in ranges a ≡ true → (first ≤ a) × (a ≤ last)
    inside [] all h = absurd (true≢false (sym h))
    inside (range ∷ more) all h = one range more (both _ _ all).0 (or_yes _ _ h) (λ later. inside more (both _ _ all).1 later)

    by : (b : Bool) → is_in ranges a ≡ b → ((first ≤ a) × (a ≤ last)) ⊎ (ram_byte v.memory a ≡ ram_byte memory a)
    by true is = inl (inside ranges all is)
    by false is = inr (keeps.bytes a is)

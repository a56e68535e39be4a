-- Lines and the terms that they state.
use Rattle.std.specs.Prelude.{◌≡◌, ◌≢◌, ℕ, ◌≤◌, ◌==◌, nat_le, Bool, true, false, not, ◌&&◌, List, [], ◌∷◌, codes, Option, Some, None, refl, if◌then◌else◌}
use Rattle.std.specs.Str.{bytes_eq}
use Rattle.std.proofs.Common.{sym, ap, ◌∙◌, true≢false}
use Rattle.a2_bus.specs.KeyText.{SpellsKeys, escaped}
use Rattle.a2_promise.specs.Tokens.{Token, word}
use Rattle.a2_promise.specs.Grammar.{is_just}
use Rattle.a2_promise_rules.proofs.Proving.{le_yes, eq_yes, eq_no}
use Rattle.a2_promise_rules.proofs.Ranges.{both}

abbrev is_nothing : List Token → Bool
is_nothing (word name ∷ []) = bytes_eq name (codes "nothing")
is_nothing _ = false

-- if something is named that may change, `changes` does not say that nothing may
pub not_nothing : (tokens : List Token) → is_nothing tokens ≡ false → tokens ≡ word (codes "nothing") ∷ [] → ⊥
not_nothing tokens other is = true≢false (sym (ap is_nothing is) ∙ other)

-- Keys in their spelling

abbrev is_plain : ℕ → ℕ → Bool
is_plain c key = nat_le 0x20 c && (nat_le c 0x7E && (not (c == 0x5C) && (key == c)))

-- a text spells keys, by computation
abbrev spells : List ℕ → List ℕ → Bool
spells [] [] = true
spells (c ∷ text) [] = false
spells [] (key ∷ keys) = false
spells (c ∷ []) (key ∷ keys) = is_plain c key && spells [] keys
spells (c ∷ d ∷ text) (key ∷ keys) =
    if c == 0x5C then is_just key (escaped d) && spells text keys else is_plain c key && spells (d ∷ text) keys

not_so : (x : Bool) → not x ≡ true → x ≡ false
not_so true h = absurd (true≢false (sym h))
not_so false h = refl

just_so : (n : ℕ) (found : Option ℕ) → is_just n found ≡ true → found ≡ Some n
just_so n None h = absurd (true≢false (sym h))
just_so n (Some m) h = ap Some (eq_yes m n h)

plain_one : (c key : ℕ) → is_plain c key ≡ true → (0x20 ≤ c) × (c ≤ 0x7E) × (c ≢ 0x5C) × (key ≡ c)
plain_one c key h =
    let low = both (nat_le 0x20 c) (nat_le c 0x7E && (not (c == 0x5C) && (key == c))) h in
    let high = both (nat_le c 0x7E) (not (c == 0x5C) && (key == c)) low.1 in
    let other = both (not (c == 0x5C)) (key == c) high.1 in
    (le_yes 0x20 c low.0, le_yes c 0x7E high.0, eq_no c 0x5C (not_so (c == 0x5C) other.0), eq_yes key c other.1)

-- a text that begins with two characters, given the rest after the first and the rest after both
spells_two : (c d key : ℕ) (text keys : List ℕ) → (spells text keys ≡ true → SpellsKeys text keys)
    → (spells (d ∷ text) keys ≡ true → SpellsKeys (d ∷ text) keys) → spells (c ∷ d ∷ text) (key ∷ keys) ≡ true
    → SpellsKeys (c ∷ d ∷ text) (key ∷ keys)
spells_two c d key text keys behind_both behind_one = by (c == 0x5C) refl
  where
    by : (is : Bool) → (c == 0x5C) ≡ is
        → (if is then is_just key (escaped d) && spells text keys else is_plain c key && spells (d ∷ text) keys) ≡ true
        → SpellsKeys (c ∷ d ∷ text) (key ∷ keys)
    by true is so =
        let two = both (is_just key (escaped d)) (spells text keys) so in
        (text, (c ∷ d ∷ [], refl, (eq_yes c 0x5C is, just_so key (escaped d) two.0)), behind_both two.1)
    by false is so =
        let two = both (is_plain c key) (spells (d ∷ text) keys) so in
        (d ∷ text, (c ∷ [], refl, plain_one c key two.0), behind_one two.1)

pub spells_keys : (text keys : List ℕ) → spells text keys ≡ true → SpellsKeys text keys
spells_keys [] [] h = refl
spells_keys (c ∷ text) [] h = absurd (true≢false (sym h))
spells_keys [] (key ∷ keys) h = absurd (true≢false (sym h))
spells_keys (c ∷ []) (key ∷ keys) h =
    let two = both (is_plain c key) (spells [] keys) h in
    ([], (c ∷ [], refl, plain_one c key two.0), spells_keys [] keys two.1)
spells_keys (c ∷ d ∷ text) (key ∷ keys) h =
    spells_two c d key text keys (λ so. spells_keys text keys so) (λ so. spells_keys (d ∷ text) keys so) h

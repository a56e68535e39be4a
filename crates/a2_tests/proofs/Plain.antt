-- No text in a page begins or ends a tag or the value of an attribute.
use Rattle.std.specs.Prelude.{◌≡◌, ◌==◌, ◌&&◌, ◌||◌, ℕ, Bool, true, false, not, nat_lt, List, [], ◌∷◌, ◌++◌, codes, if◌then◌else◌, refl}
use Rattle.std.specs.List.{flat_map, list_all}
use Rattle.std.proofs.Common.{◌+◌, ◌<◌, ap, drop, get_or, length, true≢false}
use Rattle.std.proofs.lemmas.List.{drop_more}
use Rattle.a2_tests.specs.Pages.{TextsArePlain, markup_byte, is_plain}

one-plain : (less greater quote : Bool) → less ≡ false → greater ≡ false → quote ≡ false → ((not less && not greater && not quote) && true) ≡ true
one-plain false false false h i j = refl
one-plain true greater quote h i j = absurd (true≢false h)
one-plain false true quote h i j = absurd (true≢false i)
one-plain false false true h i j = absurd (true≢false j)

byte-plain : (has_lines is_utf8 : Bool) (c : ℕ) → list_all is_plain (markup_byte has_lines is_utf8 c) ≡ true
byte-plain has_lines is_utf8 c =
    go (c == 0x22) (c == 0x26) (c == 0x3C) (c == 0x3E) (c == 0x0A && has_lines) (nat_lt c 0x20 || c == 0x7F || (nat_lt 0x7F c && not is_utf8)) refl refl refl
  where
    go : (quote and less greater feed other : Bool) → (c == 0x22) ≡ quote → (c == 0x3C) ≡ less → (c == 0x3E) ≡ greater
        → list_all is_plain (if quote then codes "&quot;" else if and then codes "&amp;" else if less then codes "&lt;"
        else if greater then codes "&gt;" else if feed then c ∷ [] else if other then codes "?" else c ∷ []) ≡ true
    go true and less greater feed other h i j = refl
    go false true less greater feed other h i j = refl
    go false false true greater feed other h i j = refl
    go false false false true feed other h i j = refl
    go false false false false true other h i j = one-plain (c == 0x3C) (c == 0x3E) (c == 0x22) i j h
    go false false false false false true h i j = refl
    go false false false false false false h i j = one-plain (c == 0x3C) (c == 0x3E) (c == 0x22) i j h

and-plain : (plain rest both : Bool) → (rest ≡ true → both ≡ true) → (plain && rest) ≡ true → (plain && both) ≡ true
and-plain true rest both more h = more h
and-plain false rest both more h = h

both-plain : (xs ys : List ℕ) → list_all is_plain xs ≡ true → list_all is_plain ys ≡ true → list_all is_plain (xs ++ ys) ≡ true
both-plain [] ys h i = i
both-plain (c ∷ xs) ys h i =
    and-plain (is_plain c) (list_all is_plain xs) (list_all is_plain (xs ++ ys)) (λ rest. both-plain xs ys rest i) h

pub texts-plain : TextsArePlain
texts-plain has_lines is_utf8 [] = refl
texts-plain has_lines is_utf8 (c ∷ text) =
    both-plain (markup_byte has_lines is_utf8 c) (flat_map (markup_byte has_lines is_utf8) text) (byte-plain has_lines is_utf8 c)
    (texts-plain has_lines is_utf8 text)

-- what a page has for a text, from an index on
pub pieces-next : (f : ℕ → List ℕ) (text : List ℕ) (i d : ℕ) → i < length text
    → flat_map f (drop i text) ≡ f (get_or text i d) ++ flat_map f (drop (i + 1) text)
pieces-next f text i d low = ap (flat_map f) (drop_more text i d low)

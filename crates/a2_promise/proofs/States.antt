-- What a reader reads, and which names are bound in its state.
use Rattle.std.specs.Prelude.{◌≡◌, ◌<◌, ◌≤◌, ℕ, suc, ◌+◌, ◌-◌, Bool, true, false, ◌==◌, ◌&&◌, cond, nat_lt, min, IsTrue, List, [], ◌∷◌, ◌++◌, length, take, map, reverse, slice_set, Option, Some, None, refl, if◌then◌else◌}
use Rattle.std.specs.List.{prefix_len, list_all}
use Rattle.std.specs.Str.{bytes_eq}
use Rattle.std.proofs.Common.{ap, sym, subst, ◌∙◌, get_or, arith, length-take}
use Rattle.std.proofs.lemmas.List.{map-set, take_more, take_more_set, reverse-append, reverse-reverse, length-reverse, length-append, length-map, length-take-le, get_or-map, take_at, take-take}
use Rattle.std.proofs.lemmas.Slice.Eq.{bytes_eq-Decides}
use Rattle.std.proofs.lemmas.Bool.Decides.{Decides-like, same_from_decides}
use Rattle.a2_text.specs.Bytes.{is_digit}
use Rattle.a2_text.specs.Signs.{sign as code}
use Rattle.a2_text.specs.Words.{after_blanks}
use Rattle.a2_syntax.specs.Numbers.{is_quote, is_quotable}
use Rattle.a2_promise.specs.Tokens.{Token, sign, quoted, is_letter, is_double, front, following, sign_from, quoted_from, token_from, tokens}
use Rattle.a2_promise.specs.Grammar.{Scope, inside, is_text, number_among}
use Rattle.a2_promise.specs.Reading.{first, with_rest}
use Rattle.a2_promise.proofs.Tokens.{tokens_are, tokens_with, choice}

-- The next token

first_with : (token : Option Token) (following : List ℕ) → token ≡ first (tokens_with (with_rest token following))
first_with None following = refl
first_with (Some token) following = refl

pub first_is : (token : Option Token) (following line : List ℕ) → with_rest token following ≡ token_from (after_blanks line) → token ≡ first (tokens line)
first_is token following line e =
    first_with token following ∙ ap (λ found. first (tokens_with found)) e ∙ ap first (sym (tokens_are line))

rest_with : (found : Option Token) (following : List ℕ) (token : Token) → first (tokens_with (with_rest found following)) ≡ Some token
    → tokens_with (with_rest found following) ≡ token ∷ tokens following
rest_with None following token e = cc
rest_with (Some found) following token e = cc

pub rest_is : (found : Option Token) (following line : List ℕ) (token : Token) → with_rest found following ≡ token_from (after_blanks line)
    → first (tokens line) ≡ Some token → tokens line ≡ token ∷ tokens following
rest_is found following line token e f =
    let same : tokens line ≡ tokens_with (with_rest found following) = tokens_are line ∙ ap tokens_with (sym e) in
    same ∙ rest_with found following token (ap first (sym same) ∙ f)

-- A text in quotes

front_step : (p : ℕ → Bool) (c : ℕ) (text : List ℕ) (b : Bool) → p c ≡ b → list_all p (front p text) ≡ true
    → list_all p (take (cond b (1 + prefix_len p text) 0) (c ∷ text)) ≡ true
front_step p c text true e h =
    let n : 1 + prefix_len p text ≡ suc (prefix_len p text) = omega arith in
    ap (λ n. list_all p (take n (c ∷ text))) n ∙ ap (λ b. b && list_all p (front p text)) e ∙ h
front_step p c text false e h = refl

front_all : (p : ℕ → Bool) (text : List ℕ) → list_all p (front p text) ≡ true
front_all p [] = refl
front_all p (c ∷ text) = front_step p c text (p c) refl (front_all p text)

all_three : (a b c : Bool) → a ≡ true → b ≡ true → c ≡ true → IsTrue (a && b && c)
all_three a b c p q r = cc

and_right : (a b : Bool) → (a && b) ≡ true → b ≡ true
and_right true b e = e
and_right false b e = cc

abbrev IsGood : ℕ → List ℕ → Token × List ℕ → Type 0
IsGood quote text found = found.0 ≡ quoted quote text → IsTrue (is_text quote text)

good_quoted : (quote c : ℕ) (text more : List ℕ) (b : Bool) → is_quote c ≡ true → list_all (is_quotable c) more ≡ true
    → (b && nat_lt 0 (length more)) ≡ true → quoted c more ≡ quoted quote text → IsTrue (is_text quote text)
good_quoted quote c text more b q a t e =
    let c_is : c ≡ quote = cc in
    let text_is : more ≡ text = cc in
    let P : ℕ → Type 0 = λ q. IsTrue (is_text q text) in
    let Q : List ℕ → Type 0 = λ t. IsTrue (is_text c t) in
    subst P c_is (subst Q text_is (all_three (is_quote c) (nat_lt 0 (length more)) (list_all (is_quotable c) more) q (and_right b _ t) a))

apart : (quote : ℕ) (text other : List ℕ) → sign other ≡ quoted quote text → IsTrue (is_text quote text)
apart quote text other e = absurd (let no : ⊥ = cc in no)

quoted_good : (quote c : ℕ) (text : List ℕ) (more beyond rest : List ℕ) → is_quote c ≡ true → list_all (is_quotable c) more ≡ true
    → IsGood quote text (quoted_from c more beyond rest)
quoted_good quote c text more [] rest q a = λ e. apart quote text (c ∷ []) e
quoted_good quote c text more (d ∷ beyond) rest q a =
    choice (d == c && nat_lt 0 (length more)) (IsGood quote text) (quoted c more, beyond) (sign (c ∷ []), rest)
    (λ t. λ e. good_quoted quote c text more (d == c) q a t e) (λ f. λ e. apart quote text (c ∷ []) e)

no_sign : (quote c : ℕ) (text rest : List ℕ) → IsGood quote text (sign_from c rest)
no_sign quote c text [] = λ e. apart quote text (c ∷ []) e
no_sign quote c text (d ∷ rest) =
    choice (is_double c d) (IsGood quote text) (sign (c ∷ d ∷ []), rest) (sign (c ∷ []), d ∷ rest)
    (λ t. λ e. apart quote text (c ∷ d ∷ []) e) (λ t. λ e. apart quote text (c ∷ []) e)

abbrev IsGoodFound : ℕ → List ℕ → Option (Token × List ℕ) → Type 0
IsGoodFound quote text None = Unit {0}
IsGoodFound quote text (Some found) = IsGood quote text found

good_found : (quote : ℕ) (text line : List ℕ) → IsGoodFound quote text (token_from line)
good_found quote text [] = tt
good_found quote text (c ∷ rest) =
    let P = IsGood quote text in
    choice (c == code "$") P _ _ (λ b e. absurd (let no : ⊥ = cc in no)) (λ b.
    choice (is_digit c) P _ _ (λ b e. absurd (let no : ⊥ = cc in no)) (λ b.
    choice (is_letter c) P _ _ (λ b e. absurd (let no : ⊥ = cc in no)) (λ b.
    choice (is_quote c) P _ _ (λ b. quoted_good quote c text (front (is_quotable c) rest) (following (is_quotable c) rest) rest b (front_all (is_quotable c) rest))
    (λ b. no_sign quote c text rest))))

good_first : (quote : ℕ) (text : List ℕ) (found : Option (Token × List ℕ)) → IsGoodFound quote text found
    → first (tokens_with found) ≡ Some (quoted quote text) → IsTrue (is_text quote text)
good_first quote text None g e = absurd (let no : ⊥ = cc in no)
good_first quote text (Some found) g e = g (let same : found.0 ≡ quoted quote text = cc in same)

pub quoted_text : (quote : ℕ) (text line : List ℕ) → first (tokens line) ≡ Some (quoted quote text) → IsTrue (is_text quote text)
quoted_text quote text line e =
    good_first quote text (token_from (after_blanks line)) (good_found quote text (after_blanks line)) (ap first (sym (tokens_are line)) ∙ e)

-- Bound names

pub bound_more : {X : Type 0} (f : X → List ℕ) (xs : List X) (n : ℕ) (x : X) → n < length xs
    → reverse (take (n + 1) (map f (slice_set xs n x))) ≡ f x ∷ reverse (take n (map f xs))
bound_more f xs n x l =
    ap (λ ys. reverse (take (n + 1) ys)) (map-set f xs n x)
    ∙ ap (λ ys. reverse ys) (take_more_set (map f xs) n (f x) (omega (arith, l, length-map xs f)))
    ∙ reverse-append (take n (map f xs)) (f x ∷ [])

pub unbound : (xs : List (List ℕ)) (named k : ℕ) (name : List ℕ) (around : List (List ℕ)) → reverse (take (min named 4) xs) ≡ name ∷ around
    → length around ≡ k → reverse (take (min k 4) xs) ≡ around
unbound xs named k name around e l =
    let n = min named 4 in
    let back : take n xs ≡ reverse around ++ name ∷ [] = sym (reverse-reverse (take n xs)) ∙ ap reverse e ∙ reverse-append (name ∷ []) around in
    let fact = length-append (reverse around) (name ∷ []) in
    let less : k < n = omega (arith, ap length back, length-take n xs, fact, length-reverse around, l) in
    let same : min k 4 ≡ k = omega (arith, less) in
    ap (λ k. reverse (take k xs)) same ∙ ap (λ ys. reverse ys) (sym (take-take k n xs (omega (arith, less)))) ∙ ap (λ ys. reverse (take k ys)) back
    ∙ ap (λ ys. reverse ys) (take_at (reverse around) (name ∷ []) k (length-reverse around ∙ l)) ∙ reverse-reverse around

among_less : (xs : List (List ℕ)) (n : ℕ) (name : List ℕ) → n < length xs
    → number_among (reverse (take (n + 1) xs)) name ≡ (if bytes_eq name (get_or xs n []) then Some n else number_among (reverse (take n xs)) name)
among_less xs n name l =
    ap (λ ys. number_among (reverse ys) name) (take_more xs n [] l)
    ∙ ap (λ ys. number_among ys name) (reverse-append (take n xs) (get_or xs n [] ∷ []))
    ∙ ap (λ k. if bytes_eq name (get_or xs n []) then Some k else number_among (reverse (take n xs)) name)
    (length-reverse (take n xs) ∙ length-take-le n xs (omega (arith, l)))

-- among the first names of a list, either the last one is the name or an earlier one may be
pub among_here : (xs : List (List ℕ)) (n : ℕ) (name : List ℕ) → 0 < n → n ≤ length xs → bytes_eq name (get_or xs (n - 1) []) ≡ true
    → number_among (reverse (take n xs)) name ≡ Some (n - 1)
among_here xs n name p l e =
    let m : n ≡ n - 1 + 1 = omega (arith, p) in
    ap (λ n. number_among (reverse (take n xs)) name) m ∙ among_less xs (n - 1) name (omega (arith, p, l))
    ∙ ap (λ b. if b then Some (n - 1) else number_among (reverse (take (n - 1) xs)) name) e

pub among_before : (xs : List (List ℕ)) (n : ℕ) (name : List ℕ) → 0 < n → n ≤ length xs → bytes_eq name (get_or xs (n - 1) []) ≡ false
    → number_among (reverse (take n xs)) name ≡ number_among (reverse (take (n - 1) xs)) name
among_before xs n name p l e =
    let m : n ≡ n - 1 + 1 = omega (arith, p) in
    ap (λ n. number_among (reverse (take n xs)) name) m ∙ among_less xs (n - 1) name (omega (arith, p, l))
    ∙ ap (λ b. if b then Some (n - 1) else number_among (reverse (take (n - 1) xs)) name) e

pub same_scope : (outer scope : Scope) (name : List ℕ) (around : List (List ℕ)) → outer ≡ inside name scope → around ≡ scope.around
    → (record outer { around = around }) ≡ scope
same_scope outer scope name around e r =
    ap (λ (s : Scope). record s { around = around }) e ∙ ap (λ around. record scope { around = around }) r

bytes_turned : (xs ys : List ℕ) → bytes_eq xs ys ≡ bytes_eq ys xs
bytes_turned xs ys = same_from_decides (bytes_eq xs ys) (bytes_eq ys xs) (bytes_eq-Decides xs ys)
    (Decides-like (bytes_eq ys xs) (λ e. sym e) (λ e. sym e) (bytes_eq-Decides ys xs))

-- the name at an index is another one, or it is not
pub named_at : {X : Type 0} (f : X → List ℕ) (xs : List X) (n : ℕ) (name : List ℕ) (d : X) (b : Bool) → n < length xs
    → bytes_eq (f (get_or xs n d)) name ≡ b → bytes_eq name (get_or (map f xs) n []) ≡ b
named_at f xs n name d b l e = ap (λ other. bytes_eq name other) (get_or-map f xs n d [] l) ∙ bytes_turned name (f (get_or xs n d)) ∙ e

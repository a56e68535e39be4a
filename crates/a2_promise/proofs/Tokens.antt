-- The tokens of a text, one after another.
use Rattle.std.specs.Prelude.{◌≡◌, ◌<◌, ◌≤◌, ℕ, zero, suc, ◌+◌, Bool, true, false, ◌==◌, ◌&&◌, nat_lt, List, [], ◌∷◌, length, take, drop, Option, Some, None, refl, if◌then◌else◌}
use Rattle.std.specs.List.{prefix_len}
use Rattle.std.proofs.Common.{ap, sym, ◌∙◌, get_or, arith, length-drop}
use Rattle.a2_text.specs.Bytes.{is_blank, is_digit, is_hex_digit}
use Rattle.a2_text.specs.Signs.{sign as code}
use Rattle.a2_text.specs.Words.{after_blanks}
use Rattle.a2_syntax.specs.Names.{is_name_byte}
use Rattle.a2_syntax.specs.Numbers.{is_quote, is_quotable}
use Rattle.std.proofs.lemmas.Bool.{false≢true}
use Rattle.std.proofs.lemmas.Bool.Decides.{Decides-eqb}
use Rattle.a2_promise.specs.declared.reading.Class.{Class}
use Rattle.a2_promise.specs.declared.reading.Class.TheVariants as class_of
use Rattle.a2_promise.specs.Reading.{token_of, with_rest, IsWritten}
use Rattle.a2_promise.proofs.Names.{unequal}
use Rattle.a2_promise.specs.Tokens.{Token, word, decimal, sign, is_letter, is_double, front, following, sign_from, quoted_from, token_from, tokens_up_to, tokens}

-- the rest after a prefix is not longer than the text
no_longer : (p : ℕ → Bool) (text : List ℕ) → length (following p text) ≤ length text
no_longer p text = omega (arith, length-drop (prefix_len p text) text)

-- a property of a choice, from the properties of its branches
pub choice : (b : Bool) (P : Token × List ℕ → Type 0) (x y : Token × List ℕ) → (b ≡ true → P x) → (b ≡ false → P y) → P (if b then x else y)
choice true P x y p q = p refl
choice false P x y p q = q refl

either_way : (b : Bool) (P : Token × List ℕ → Type 0) (x y : Token × List ℕ) → P x → P y → P (if b then x else y)
either_way b P x y p q = choice b P x y (λ e. p) (λ e. q)

sign_shorter : (c : ℕ) (rest : List ℕ) → length (sign_from c rest).1 ≤ length rest
sign_shorter c [] = omega arith
sign_shorter c (d ∷ rest) =
    either_way (is_double c d) (λ found. length found.1 ≤ length (d ∷ rest)) _ _ (omega arith) (omega arith)

quoted_shorter : (quote : ℕ) (text beyond rest : List ℕ) → length beyond ≤ length rest → length (quoted_from quote text beyond rest).1 ≤ length rest
quoted_shorter quote text [] rest h = omega arith
quoted_shorter quote text (c ∷ more) rest h =
    either_way (c == quote && nat_lt 0 (length text)) (λ found. length found.1 ≤ length rest) _ _ (omega (arith, h)) (omega arith)

-- a token has at least one byte
abbrev pub IsShorter : Option (Token × List ℕ) → List ℕ → Type 0
IsShorter None text = Unit {0}
IsShorter (Some found) text = length found.1 < length text

pub token_shorter : (text : List ℕ) → IsShorter (token_from text) text
token_shorter [] = tt
token_shorter (c ∷ rest) =
    let P : Token × List ℕ → Type 0 = λ found. length found.1 < length (c ∷ rest) in
    either_way (c == code "$") P _ _ (omega (arith, no_longer is_hex_digit rest))
    (either_way (is_digit c) P _ _ (omega (arith, no_longer is_digit rest))
    (either_way (is_letter c) P _ _ (omega (arith, no_longer is_name_byte rest))
    (either_way (is_quote c) P _ _
    (omega (arith, quoted_shorter c (front (is_quotable c) rest) (following (is_quotable c) rest) rest (no_longer (is_quotable c) rest)))
    (omega (arith, sign_shorter c rest)))))

shorter_behind : (text : List ℕ) → length (after_blanks text) ≤ length text
shorter_behind text = omega (arith, length-drop (prefix_len is_blank text) text)

abbrev up_to : ℕ → Option (Token × List ℕ) → List Token
up_to n None = []
up_to n (Some found) = found.0 ∷ tokens_up_to n found.1

same_first : (n m : ℕ) (text : List ℕ) (found : Option (Token × List ℕ)) → IsShorter found text
    → ((more : List ℕ) → length more < length text → tokens_up_to n more ≡ tokens_up_to m more) → up_to n found ≡ up_to m found
same_first n m text None s h = refl
same_first n m text (Some found) s h = ap (λ more. found.0 ∷ more) (h found.1 s)

-- so any count that is at least the length gives all tokens
pub enough : (n m : ℕ) (text : List ℕ) → length text ≤ n → length text ≤ m → tokens_up_to n text ≡ tokens_up_to m text
enough zero zero text h l = refl
enough zero (suc m) [] h l = refl
enough zero (suc m) (c ∷ text) h l = absurd (omega (arith, h))
enough (suc n) zero [] h l = refl
enough (suc n) zero (c ∷ text) h l = absurd (omega (arith, l))
enough (suc n) (suc m) text h l =
    same_first n m (after_blanks text) (token_from (after_blanks text)) (token_shorter (after_blanks text))
    (λ more s. enough n m more (omega (arith, s, shorter_behind text)) (omega (arith, s, shorter_behind text)))

-- the first token, and those after it
abbrev pub tokens_with : Option (Token × List ℕ) → List Token
tokens_with None = []
tokens_with (Some found) = found.0 ∷ tokens found.1

to_tokens : (n : ℕ) (text : List ℕ) (found : Option (Token × List ℕ)) → IsShorter found text → length text ≤ suc n
    → up_to n found ≡ tokens_with found
unfolding tokens
to_tokens n text None s l = refl
to_tokens n text (Some found) s l = ap (λ more. found.0 ∷ more) (enough n (length found.1) found.1 (omega (arith, s)) (omega arith))

tokens_of : (text : List ℕ) (n : ℕ) → length text ≤ n → tokens_up_to n text ≡ tokens_with (token_from (after_blanks text))
tokens_of [] zero l = refl
tokens_of (c ∷ text) zero l = absurd (omega (arith, l))
tokens_of text (suc n) l =
    to_tokens n (after_blanks text) (token_from (after_blanks text)) (token_shorter (after_blanks text)) (omega (arith, l, shorter_behind text))

pub tokens_are : (text : List ℕ) → tokens text ≡ tokens_with (token_from (after_blanks text))
unfolding tokens
tokens_are text = tokens_of text (length text) (omega arith)

-- Tokens by their first byte

one_more : (n : ℕ) → 1 + n ≡ suc n
one_more n = omega arith

not_dollar : (c : ℕ) (p : ℕ → Bool) → p c ≡ true → p 36 ≡ false → (c == 36) ≡ false
not_dollar c p h l = unequal (c == 36) (λ e. let same : c ≡ 36 = (Decides-eqb c 36).0 e in false≢true (sym l ∙ ap p (sym same) ∙ h))

letter_stands : (c : ℕ) → is_letter c ≡ true → is_name_byte c ≡ true
letter_stands c h = grind arith

no_quote : (c : ℕ) → (c ≡ 39 → ⊥) → (c ≡ 34 → ⊥) → is_quote c ≡ false
no_quote c q r = unequal (is_quote c) (λ e. grind arith)

pub digit_found : (text more here : List ℕ) (n : ℕ) → text ≡ take n here → more ≡ drop n here → n ≡ prefix_len is_digit here → 0 < length here
    → is_digit (get_or here 0 0) ≡ true → Some (decimal text, more) ≡ token_from here
digit_found text more [] n t m e l h = absurd (omega (arith, l))
digit_found text more (c ∷ rest) n t m e l h = rw (t, m, e, not_dollar c is_digit h refl, h, one_more (prefix_len is_digit rest))

pub letter_found : (text more here : List ℕ) (n : ℕ) → text ≡ take n here → more ≡ drop n here → n ≡ prefix_len is_name_byte here → 0 < length here
    → is_digit (get_or here 0 0) ≡ false → is_letter (get_or here 0 0) ≡ true → Some (word text, more) ≡ token_from here
letter_found text more [] n t m e l d h = absurd (omega (arith, l))
letter_found text more (c ∷ rest) n t m e l d h =
    rw (t, m, e, letter_stands c h, one_more (prefix_len is_name_byte rest), not_dollar c is_letter h refl, d, h)

pub sign_found : (class : Class) (text more here : List ℕ) (n : ℕ) → class ≡ class_of.Sign → text ≡ take n here → more ≡ drop n here
    → ((c : ℕ) (rest : List ℕ) → here ≡ c ∷ rest → sign_from c rest ≡ (sign (take n here), drop n here)) → 0 < length here
    → (get_or here 0 0 ≡ 36 → ⊥) → (get_or here 0 0 ≡ 39 → ⊥) → (get_or here 0 0 ≡ 34 → ⊥)
    → is_digit (get_or here 0 0) ≡ false → is_letter (get_or here 0 0) ≡ false → with_rest (token_of class text) more ≡ token_from here
sign_found class text more [] n k t m by l p q r d h = absurd (omega (arith, l))
sign_found class text more (c ∷ rest) n k t m by l p q r d h =
    rw (k, t, m, unequal (c == 36) (λ e. p ((Decides-eqb c 36).0 e)), d, h, no_quote c q r, by c rest refl)

-- a word has the spelling of a word
pub word_written : (class : Class) (text here : List ℕ) (n : ℕ) → class ≡ class_of.Word → text ≡ take n here → n ≡ prefix_len is_name_byte here
    → 0 < length here → is_letter (get_or here 0 0) ≡ true → IsWritten class text
word_written class text [] n k t e l h = absurd (omega (arith, l))
word_written class text (c ∷ rest) n k t e l h = rw (k, t, e, letter_stands c h, one_more (prefix_len is_name_byte rest), h)

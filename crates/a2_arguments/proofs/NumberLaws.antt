-- Decimal digits, as a fact and as a test.
use Rattle.std.proofs.Common.{◌≡◌, ◌&&◌, ℕ, Bool, true, false, ltb, leb, cond, List, [], ◌∷◌, length, Option, Some, None, refl, ap}
use Rattle.std.specs.Prelude.{SomeIff}
use Rattle.std.specs.List.{list_all}
use Rattle.std.specs.Char.{digit_value}
use Rattle.std.specs.Str.Parse.{AllDigits, digits_value}
use Rattle.std.proofs.lemmas.Bool.{lt-ltb, le-leb, ltb-true, leb-true}
use Rattle.a2_arguments.specs.Values.{IsNumber, is_number, number_in}

both : (a b : Bool) → (a && b) ≡ true → (a ≡ true) × (b ≡ true)
both true b h = (refl, h)
both false b h = absurd cc

and-true : (a b : Bool) → a ≡ true → b ≡ true → (a && b) ≡ true
and-true a b p q = rw (p, q) refl

all_digits : (text : List ℕ) → AllDigits 10 text → list_all (λ c. ltb (digit_value c) 10) text ≡ true
all_digits [] h = refl
all_digits (c ∷ cs) h = and-true (ltb (digit_value c) 10) (list_all (λ c. ltb (digit_value c) 10) cs) (lt-ltb (digit_value c) 10 h.0) (all_digits cs h.1)

digits_all : (text : List ℕ) → list_all (λ c. ltb (digit_value c) 10) text ≡ true → AllDigits 10 text
digits_all [] h = tt
digits_all (c ∷ cs) h =
    let parts = both (ltb (digit_value c) 10) (list_all (λ c. ltb (digit_value c) 10) cs) h in
    (ltb-true (digit_value c) 10 parts.0, digits_all cs parts.1)

passes : (least most : ℕ) (text : List ℕ) → IsNumber least most text → is_number least most text ≡ true
passes least most text h =
    let value = digits_value 10 text in
    rw (lt-ltb 0 (length text) h.0.0, all_digits text h.0.1, le-leb least value h.1, le-leb value most h.2) refl

passed : (least most : ℕ) (text : List ℕ) → is_number least most text ≡ true → IsNumber least most text
passed least most text h =
    let value = digits_value 10 text in
    let digits = list_all (λ c. ltb (digit_value c) 10) text in
    let one = both (ltb 0 (length text) && digits && leb least value) (leb value most) h in
    let two = both (ltb 0 (length text) && digits) (leb least value) one.0 in
    let three = both (ltb 0 (length text)) digits two.0 in
    ((ltb-true 0 (length text) three.0, digits_all text three.1), leb-true least value two.1, leb-true value most one.1)

-- what a fact decides, its test decides
pub number_tested : (least most : ℕ) (text : List ℕ) (result : Option ℕ) → SomeIff result (IsNumber least most text) (digits_value 10 text) → result ≡ number_in least most text
number_tested least most text None h = go (is_number least most text) refl
  where
    go : (b : Bool) → is_number least most text ≡ b → None ≡ cond b (Some (digits_value 10 text)) None
    go false e = refl
    go true e = absurd (h (passed least most text e))
number_tested least most text (Some n) h = rw (passes least most text h.0) (ap Some h.1)

-- The pieces determine the operand: nothing, a single letter, or a shape around an expression.
use Rattle.std.proofs.Common.{◌≡◌, ℕ, Bool, true, false, List, [], ◌∷◌, ◌++◌, refl, sym, ap, ◌∙◌, inl, inr, Option, Some, None, option_map, codes, length, ◌<◌, arith, if◌then◌else◌}
use Rattle.std.specs.List.{list_any}
use Rattle.std.proofs.lemmas.Bool.{false≢true, cases_Bool, eqb-true, eq-eqb, or_parts}
use Rattle.std.proofs.lemmas.Bool.Decides.{nat_tests}
use Rattle.std.proofs.lemmas.List.{append_assoc}
use Rattle.std.proofs.lemmas.Option.{none-some, same_Some}
use Rattle.a2_text.specs.Bytes.{capital}
use Rattle.a2_syntax.specs.Relations.{Finds}
use Rattle.a2_syntax.specs.Grammar.{IsLetter, IsIndexed, IsEnclosed, IsExpr, IsOperand}
use Rattle.a2_syntax.specs.Reading.{is_byte}
use Rattle.a2_syntax.specs.Shapes.{of_shape, is_letter, is_accumulator, following, before, indexed, enclosed, shape_of}
use Rattle.a2_syntax.specs.declared.operand.Shape.{Shape}
use Rattle.a2_syntax.specs.declared.operand.Shape.TheVariants as shapes
use Rattle.a2_syntax.specs.declared.source.Expr.{Expr}
use Rattle.a2_syntax.specs.declared.source.Operand.{Operand}
use Rattle.a2_syntax.specs.declared.source.Operand.TheVariants.{Nothing, Accumulator, Immediate, Plain, WithX, WithY, InParenthesesX, ParenthesesY, InParentheses}
use Rattle.a2_syntax.proofs.ExprLaws.{byte-is, is_outer, expr-inner, outer-following, expr-some, IsExpr-one}
use Rattle.a2_syntax.proofs.Deciding.{told}

pub letter-is : (c : ℕ) (piece : List ℕ) → is_letter c piece ≡ true → IsLetter (c ∷ []) piece
letter-is c [] h = cc
letter-is c (x ∷ []) h = ap (λ z. z ∷ []) (eqb-true _ c h)
letter-is c (x ∷ y ∷ more) h = cc

is-letter : (c : ℕ) (piece : List ℕ) → IsLetter (c ∷ []) piece → is_letter c piece ≡ true
is-letter c [] h = cc
is-letter c (x ∷ []) h = eq-eqb _ c (cc)
is-letter c (x ∷ y ∷ more) h = cc

-- appends a last piece
pub before_push : (passes : List ℕ → Bool) (es : List (List ℕ)) (p : List ℕ) → before passes (es ++ p ∷ []) ≡ (if passes p then Some es else None)
before_push passes [] p = refl
before_push passes (e ∷ []) p = grind arith
before_push passes (e ∷ f ∷ es) p = grind (arith, before_push passes (f ∷ es) p)

before-two : (passes : List ℕ → Bool) (es : List (List ℕ)) (a p : List ℕ) → before passes (es ++ a ∷ p ∷ []) ≡ (if passes p then Some (es ++ a ∷ []) else None)
before-two passes es a p = ap (before passes) (sym (append_assoc es (a ∷ []) (p ∷ []))) ∙ before_push passes (es ++ a ∷ []) p

before-is : (passes : List ℕ → Bool) (ps es : List (List ℕ)) → before passes ps ≡ Some es → (p : List ℕ) × (ps ≡ es ++ p ∷ []) × (passes p ≡ true)
before-is passes [] es e = cc
before-is passes (p ∷ []) es e = elim (cases_Bool (passes p)) [
  | inl h ↦ let none : [] ≡ es = same_Some [] es (rw h at e) in (p, rw (← none) refl, h)
  | inr h ↦ absurd (none-some es (rw h at e))
]
before-is passes (p ∷ q ∷ ps) es e = told (before passes (q ∷ ps))
    (λ front b. (let (x, is, h) = before-is passes (q ∷ ps) front b in (x, ap (λ z. p ∷ z) is ∙ ap (λ z. z ++ x ∷ []) (same_Some _ _ (rw b at e)), h)))
    (λ b. absurd (none-some es (rw b at e)))

indexed-some : (c : ℕ) (es : List (List ℕ)) (x : List ℕ) → IsLetter (c ∷ []) x → indexed c (es ++ codes "," ∷ x ∷ []) ≡ Some es
indexed-some c es x l = rw (before-two (is_letter c) es (codes ",") x, is-letter c x l) (before_push (is_byte 44) es (codes ","))

indexed-none : (c : ℕ) (es : List (List ℕ)) (x : List ℕ) → is_letter c x ≡ false → indexed c (es ++ codes "," ∷ x ∷ []) ≡ None
indexed-none c es x l = rw (before-two (is_letter c) es (codes ",") x, l) refl

indexed-is : (c : ℕ) (ps es : List (List ℕ)) → indexed c ps ≡ Some es → IsIndexed (c ∷ []) ps es
indexed-is c ps es e = told (before (is_letter c) ps)
    (λ front a. (let (x, is, l) = before-is (is_letter c) ps front a in
    let (comma, js, b) = before-is (is_byte 44) front es (rw a at e) in
    (x, is ∙ ap (λ z. z ++ x ∷ []) (js ∙ ap (λ z. es ++ z ∷ []) (byte-is 44 comma b)) ∙ append_assoc es (codes "," ∷ []) (x ∷ []), letter-is c x l)))
    (λ a. absurd (none-some es (rw a at e)))

following-is : (c : ℕ) (ps es : List (List ℕ)) → following (is_byte c) ps ≡ Some es → ps ≡ (c ∷ []) ∷ es
following-is c [] es e = cc
following-is c (p ∷ ps) es e = elim (cases_Bool (is_byte c p)) [
  | inl h ↦ let rest : ps ≡ es = same_Some ps es (rw h at e) in (λ i. byte-is c p h i ∷ rest i)
  | inr h ↦ absurd (none-some es (rw h at e))
]

enclosed-is : (ps es : List (List ℕ)) → enclosed ps ≡ Some es → IsEnclosed ps es
enclosed-is ps es e = told (following (is_byte 40) ps)
    (λ rest a. (let (x, is, b) = before-is (is_byte 41) rest es (rw a at e) in
    following-is 40 ps rest a ∙ ap (λ z. codes "(" ∷ z) (is ∙ ap (λ z. es ++ z ∷ []) (byte-is 41 x b))))
    (λ a. absurd (none-some es (rw a at e)))

-- in an expression there is no comma with a register letter, and it is not in parentheses
never : {X : Type 0} (o : Option X) → ((x : X) → o ≡ Some x → ⊥) → o ≡ None
never None none = refl
never (Some x) none = absurd (none x refl)

no-index : {A : Type 0} (c : ℕ) (es : List (List ℕ)) (e : Expr A) → IsExpr es e → indexed c es ≡ None
no-index c es e h = never _ (λ f i. (let (x, is, l) = indexed-is c es f i in
    false≢true (sym (expr-inner es e h) ∙ ap (list_any is_outer) is ∙ outer-following f (codes "," ∷ x ∷ []) refl)))

no-enclosed : {A : Type 0} (es : List (List ℕ)) (e : Expr A) → IsExpr es e → enclosed es ≡ None
no-enclosed es e h = never _ (λ f i. false≢true (sym (expr-inner es e h) ∙ ap (list_any is_outer) (enclosed-is es f i)))

no-letter : (p : List ℕ) (ps : List (List ℕ)) → is_letter 65 p ≡ false → is_accumulator (p ∷ ps) ≡ false
no-letter p [] h = h
no-letter p (q ∷ ps) h = refl

-- an operand that begins with an expression
head-inner : {A : Type 0} (p : List ℕ) (ps : List (List ℕ)) (e : Expr A) → IsExpr (p ∷ ps) e → is_outer p ≡ false
head-inner p ps e h = (or_parts (is_outer p) _ (expr-inner (p ∷ ps) e h)).0

first-inner : (p : List ℕ) (ps : List (List ℕ)) → is_outer p ≡ false → (is_accumulator (p ∷ ps) ≡ false) × (is_byte 35 p ≡ false) × (is_byte 40 p ≡ false)
first-inner p ps h = let (letter, hash, round) = bytes p h in (no-letter p ps letter, hash, round)
  where
    bytes : (p : List ℕ) → is_outer p ≡ false → (is_letter 65 p ≡ false) × (is_byte 35 p ≡ false) × (is_byte 40 p ≡ false)
    bytes [] h = (refl, refl, refl)
    bytes (c ∷ []) h = (grind (arith, nat_tests), grind (arith, nat_tests), grind (arith, nat_tests))
    bytes (c ∷ d ∷ ds) h = (refl, refl, refl)

-- the letter Y is neither X nor a parenthesis
y-apart : (piece : List ℕ) → IsLetter (89 ∷ []) piece → (is_letter 88 piece ≡ false) × (is_byte 41 piece ≡ false)
y-apart [] h = (refl, refl)
y-apart (x ∷ []) h = let e : capital x ≡ 89 = cc in (grind (arith, nat_tests, e), grind (arith, nat_tests, e))
y-apart (x ∷ y ∷ more) h = (refl, refl)

-- what the pieces say about their operand
abbrev Shaped : {A : Type 0} → Bool → List (List ℕ) → Operand A → Type 0
Shaped true ps o = o ≡ Accumulator
Shaped {A} false ps o = (e : Expr A) × IsExpr (shape_of ps).1 e × (o ≡ of_shape (shape_of ps).0 e)

abbrev IsAs : {A : Type 0} → List (List ℕ) → Operand A → Type 0
IsAs [] o = o ≡ Nothing
IsAs (p ∷ ps) o = Shaped (is_accumulator (p ∷ ps)) (p ∷ ps) o

shaped : {A : Type 0} (p : List ℕ) (ps : List (List ℕ)) (s : Shape) (es : List (List ℕ)) (e : Expr A) → is_accumulator (p ∷ ps) ≡ false → shape_of (p ∷ ps) ≡ (s, es)
    → IsExpr es e → IsAs (p ∷ ps) (of_shape s e)
shaped p ps s es e n is h = rw (n, is) (e, h, refl)

operand-as : {A : Type 0} (ps : List (List ℕ)) (o : Operand A) → IsOperand ps o → IsAs ps o
operand-as ps Nothing h = rw h refl
operand-as ps Accumulator (a, e, l) = rw (e, is-letter 65 a l) refl
operand-as ps (Immediate x) (es, e, h) = rw e (shaped (codes "#") es shapes.Immediate es x (no-letter (codes "#") es refl) refl h)
operand-as [] (Plain x) h = absurd (omega (arith, expr-some [] x h))
operand-as (p ∷ ps) (Plain x) h =
    let (n, hash, round) = first-inner p ps (head-inner p ps x h) in
    shaped p ps shapes.Plain (p ∷ ps) x n (rw (hash, round, no-index 88 (p ∷ ps) x h, no-index 89 (p ∷ ps) x h, shape_of) refl) h
operand-as ps (WithX x) ([], i, h) = absurd (omega (arith, expr-some [] x h))
operand-as ps (WithX x) (p ∷ es, (y, i, l), h) =
    let (n, hash, round) = first-inner p (es ++ codes "," ∷ y ∷ []) (head-inner p es x h) in
    rw i (shaped p _ shapes.WithX (p ∷ es) x n (rw (hash, round, indexed-some 88 (p ∷ es) y l, shape_of) refl) h)
operand-as ps (WithY x) ([], i, h) = absurd (omega (arith, expr-some [] x h))
operand-as ps (WithY x) (p ∷ es, (y, i, l), h) =
    let (n, hash, round) = first-inner p (es ++ codes "," ∷ y ∷ []) (head-inner p es x h) in
    rw i (shaped p _ shapes.WithY (p ∷ es) x n (rw (hash, round, indexed-none 88 (p ∷ es) y (y-apart y l).0, indexed-some 89 (p ∷ es) y l, no-enclosed (p ∷ es) x h, shape_of) refl) h)
operand-as ps (InParenthesesX x) (inner, es, i, (y, j, l), h) =
    let last : indexed 88 inner ≡ Some es = rw j (indexed-some 88 es y l) in
    rw i (shaped (codes "(") _ shapes.InParenthesesX es x (no-letter (codes "(") _ refl) (rw (before_push (is_byte 41) inner (codes ")"), last, shape_of) refl) h)
operand-as ps (ParenthesesY x) (front, es, (y, i, l), j, h) =
    let (x_apart, close) = y-apart y l in
    let whole = es ++ codes ")" ∷ [] in
    rw (i, j) (shaped (codes "(") _ shapes.ParenthesesY es x (no-letter (codes "(") _ refl)
    (rw (before-two (is_byte 41) whole (codes ",") y, close, indexed-none 88 (codes "(" ∷ whole) y x_apart, indexed-some 89 (codes "(" ∷ whole) y l, before_push (is_byte 41) es (codes ")"), shape_of) refl) h)
operand-as ps (InParentheses x) (es, i, h) =
    rw i (shaped (codes "(") _ shapes.InParentheses es x (no-letter (codes "(") _ refl) (rw (before_push (is_byte 41) es (codes ")"), no-index 88 es x h, shape_of) refl) h)

pub shape-operand : {A : Type 0} (ps : List (List ℕ)) (e : Expr A) → IsExpr (shape_of ps).1 e → IsOperand ps (of_shape (shape_of ps).0 e)
shape-operand ps e = told (following (is_byte 35) ps) (λ es a. rw (a, shape_of) (λ h. (es, following-is 35 ps es a, h)))
    (λ a. told (enclosed ps)
    (λ inner b. told (indexed 88 inner) (λ es c. rw (a, b, c, shape_of) (λ h. (inner, es, enclosed-is ps inner b, indexed-is 88 inner es c, h))) (λ c. rw (a, b, c, shape_of) (λ h. (inner, enclosed-is ps inner b, h))))
    (λ b. told (indexed 88 ps) (λ es c. rw (a, b, c, shape_of) (λ h. (es, indexed-is 88 ps es c, h)))
    (λ c. told (indexed 89 ps)
    (λ front d. told (enclosed front) (λ es f. rw (a, b, c, d, f, shape_of) (λ h. (front, es, indexed-is 89 ps front d, enclosed-is front es f, h))) (λ f. rw (a, b, c, d, f, shape_of) (λ h. (front, indexed-is 89 ps front d, h))))
    (λ d. rw (a, b, c, d, shape_of) (λ h. h)))))

pub IsOperand-one : {A : Type 0} (ps : List (List ℕ)) (a b : Operand A) → IsOperand ps a → IsOperand ps b → a ≡ b
IsOperand-one [] a b h k = operand-as [] a h ∙ sym (operand-as [] b k)
IsOperand-one {A} (p ∷ ps) a b h k = one (is_accumulator (p ∷ ps)) (operand-as (p ∷ ps) a h) (operand-as (p ∷ ps) b k)
  where
    one : (t : Bool) → Shaped t (p ∷ ps) a → Shaped t (p ∷ ps) b → a ≡ b
    one true e f = e ∙ sym f
    one false (x, is, e) (y, js, f) = e ∙ ap (of_shape (shape_of (p ∷ ps)).0) (IsExpr-one _ x y is js) ∙ sym f

pub accumulator-is : (ps : List (List ℕ)) → is_accumulator ps ≡ true → (a : List ℕ) × (ps ≡ a ∷ []) × IsLetter (65 ∷ []) a
accumulator-is [] h = cc
accumulator-is (a ∷ []) h = (a, refl, letter-is 65 a h)
accumulator-is (a ∷ b ∷ more) h = cc

pub operand-found : {A : Type 0} (ps : List (List ℕ)) (found : Shape × List (List ℕ)) (o : Option (Expr A)) → found ≡ shape_of ps → 0 < length ps → is_accumulator ps ≡ false
    → Finds (IsExpr found.1) o → Finds (IsOperand ps) (option_map (of_shape found.0) o)
operand-found ps found (Some e) is some n h = rw is (shape-operand ps e (rw is at h))
operand-found [] found None is some n none = absurd (omega (arith, some))
operand-found (p ∷ ps) found None is some n none = λ o h. (let (e, k, _) = rw n at (operand-as (p ∷ ps) o h) in none e (rw is k))

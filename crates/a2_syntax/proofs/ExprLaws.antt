-- Pieces form at most one expression, or at most one list of expressions separated by commas.
use Rattle.std.proofs.Common.{◌≡◌, ℕ, ◌+◌, ◌-◌, ◌<◌, ◌≤◌, Bool, true, false, List, [], ◌∷◌, ◌++◌, length, take, drop, map, refl, sym, ap, ◌∙◌, inl, inr, arith, Option, Some, None, option_map, MatchOption, codes, get_or, if◌then◌else◌, Bor, nat_lt}
use Rattle.std.proofs.lemmas.Bool.{false≢true, eqb-true, or_parts, or_right, cases_Bool, cases_lt, lt-ltb, le-ltb}
use Rattle.std.proofs.lemmas.Bool.Decides.{nat_tests}
use Rattle.std.proofs.lemmas.List.{take_all, take-append-drop, map-append, take_rest}
use Rattle.std.proofs.lemmas.List.Folds.{list_any-append}
use Rattle.std.specs.List.{list_any}
use Rattle.a2_text.specs.Bytes.{is_among}
use Rattle.a2_syntax.specs.Names.{is_name}
use Rattle.a2_syntax.specs.Numbers.{number}
use Rattle.a2_syntax.specs.Grammar.{IsTerm, IsSign, AreMoreTerms, AreTerms, IsPart, IsExpr, AreExprs}
use Rattle.a2_syntax.specs.Relations.{Finds}
use Rattle.a2_syntax.specs.Reading.{is_byte, part_of, has_comma}
use Rattle.a2_syntax.specs.declared.source.Term.{Term}
use Rattle.a2_syntax.specs.declared.source.Term.TheVariants.{Number, Named, Here}
use Rattle.a2_syntax.specs.declared.source.Signed.{Signed}
use Rattle.a2_syntax.specs.declared.source.Part.{Part}
use Rattle.a2_syntax.specs.declared.source.Part.TheVariants.{Whole, Low, High}
use Rattle.a2_syntax.specs.declared.source.Expr.{Expr}

-- Terms

-- a piece that cannot occur in an expression: `#`, `,`, `(`, `)` or just the letter A
abbrev pub is_outer : List ℕ → Bool
is_outer (c ∷ []) = is_among (codes "#,()Aa") c
is_outer piece = false

-- a term is not such a piece, nor is it `<` or `>`
term-not : {A : Type 0} (piece : List ℕ) (t : Term A) → IsTerm piece t → (is_outer piece ≡ false) × (is_byte 60 piece ≡ false) × (is_byte 62 piece ≡ false)
term-not [] t h = (refl, refl, refl)
term-not (c ∷ d ∷ ds) t h = (refl, refl, refl)
term-not (c ∷ []) t h = let other = byte t h in (grind (arith, nat_tests), grind (arith, nat_tests), grind (arith, nat_tests))
  where
    byte : {A : Type 0} (t : Term A) → IsTerm (c ∷ []) t → is_among (codes "#,()Aa<>") c ≡ false
    byte (Number n) h = grind (arith, nat_tests)
    byte (Named name) h = grind (arith, nat_tests)
    byte Here h = grind (arith, nat_tests)

number-name : (piece : List ℕ) (n : ℕ) → number piece ≡ Some n → is_name piece ≡ true → ⊥
number-name [] n h k = false≢true k
number-name (c ∷ cs) n h k = grind (arith, nat_tests)

star-here : {A : Type 0} (t : Term A) → IsTerm (codes "*") t → t ≡ Here
star-here (Number n) h = cc
star-here (Named name) h = absurd (false≢true h.1)
star-here Here h = refl

pub IsTerm-one : {A : Type 0} (piece : List ℕ) (a b : Term A) → IsTerm piece a → IsTerm piece b → a ≡ b
IsTerm-one piece (Number n) (Number m) h k = grind arith
IsTerm-one piece (Number n) (Named x) h k = absurd (number-name piece n h k.1)
IsTerm-one piece (Named x) (Number m) h k = absurd (number-name piece m k h.1)
IsTerm-one piece (Named x) (Named y) h k = ap Named (sym h.0 ∙ k.0)
IsTerm-one piece Here b h k = sym (star-here b (rw h at k))
IsTerm-one piece a Here h k = star-here a (rw k at h)

-- the parts of further terms
pub more-parts : {A : Type 0} {ps : List (List ℕ)} {sign piece : List ℕ} {rest : List (List ℕ)} (ts : List (Signed A)) → ps ≡ sign ∷ piece ∷ rest → AreMoreTerms ps ts
    → (t : Signed A) × (more : List (Signed A)) × (ts ≡ t ∷ more) × IsSign sign t.minus × IsTerm piece t.term × AreMoreTerms rest more
more-parts [] e h = cc
more-parts {sign = sign} {piece = piece} {rest = rest} (t ∷ more) e (g, p, rs, is, s, k, m) =
    let signs : g ≡ sign = cc in
    let pieces : p ≡ piece = cc in
    let rests : rs ≡ rest = cc in
    (t, more, refl, rw signs at s, rw pieces at k, rw rests at m)

-- a single piece is not a further term
pub no-more : {A : Type 0} (ps : List (List ℕ)) (ts : List (Signed A)) → AreMoreTerms ps ts → 0 < length ps → length ps < 2 → ⊥
no-more ps [] h some few = omega (arith, ap length h, some)
no-more ps (t ∷ ts) (sign, piece, more, e, _, _, _) some few = omega (arith, ap length e, few)

-- terms are further terms if they are preceded by a `+`
pub plus-terms : {A : Type 0} (ps : List (List ℕ)) (ts : List (Signed A)) → AreTerms ps ts → AreMoreTerms (codes "+" ∷ ps) ts
plus-terms ps [] h = absurd h
plus-terms ps (t ∷ ts) (piece, more, e, plus, term, are) = (codes "+", piece, more, ap (λ z. codes "+" ∷ z) e, rw plus refl, term, are)

-- a sign is a minus if it is that byte
sign-is : (sign : List ℕ) (m : Bool) → IsSign sign m → is_byte 45 sign ≡ m
sign-is sign false h = rw h refl
sign-is sign true h = rw h refl

AreMoreTerms-one : {A : Type 0} (ps : List (List ℕ)) (a b : List (Signed A)) → AreMoreTerms ps a → AreMoreTerms ps b → a ≡ b
AreMoreTerms-one ps [] [] h k = refl
AreMoreTerms-one ps [] (y ∷ ys) h k = cc (k.3)
AreMoreTerms-one ps (x ∷ xs) b (s, p, rest, e, sign, term, more) k =
    let (y, ys, is, mark, named, back) = more-parts b e k in
    let signs : x.minus ≡ y.minus = sym (sign-is s x.minus sign) ∙ sign-is s y.minus mark in
    (λ i. record { minus = signs i; term = IsTerm-one p x.term y.term term named i } ∷ AreMoreTerms-one rest xs ys more back i) ∙ sym is

-- Expressions

pub byte-is : (c : ℕ) (piece : List ℕ) → is_byte c piece ≡ true → piece ≡ c ∷ []
byte-is c [] h = cc
byte-is c (x ∷ []) h = ap (λ z. z ∷ []) (eqb-true x c h)
byte-is c (x ∷ y ∷ more) h = cc

pub part-is : (ps : List (List ℕ)) → IsPart (part_of ps).0 ps (part_of ps).1
part-is [] = refl
part-is (p ∷ ps) = elim (cases_Bool (is_byte 60 p)) [
  | inl low ↦ rw low (ap (λ z. z ∷ ps) (byte-is 60 p low))
  | inr low ↦ elim (cases_Bool (is_byte 62 p)) [
    | inl high ↦ rw (low, high) (ap (λ z. z ∷ ps) (byte-is 62 p high))
    | inr high ↦ rw (low, high) refl
  ]
]

IsExpr-part : {A : Type 0} (p : Part) (ps rest : List (List ℕ)) (ts : List (Signed A)) → IsPart p ps rest → AreTerms rest ts → part_of ps ≡ (p, rest)
IsExpr-part Low ps rest ts e h = rw e refl
IsExpr-part High ps rest ts e h = rw e refl
IsExpr-part Whole ps rest [] e h = absurd h
IsExpr-part Whole ps rest (t ∷ ts) e (piece, more, is, _, term, _) = let (_, low, high) = term-not piece t.term term in rw (e, is, low, high) refl

expr-parts : {A : Type 0} (ps : List (List ℕ)) (e : Expr A) → IsExpr ps e → ((part_of ps).0 ≡ e.part) × AreTerms (part_of ps).1 e.terms
expr-parts ps e (rest, p, h) = let same = IsExpr-part e.part ps rest e.terms p h in (ap (λ z. z.0) same, rw same h)

pub expr-found : {A : Type 0} (ps : List (List ℕ)) (found : Part × List (List ℕ)) (o : Option (List (Signed A))) → found ≡ part_of ps → Finds (AreTerms found.1) o
    → Finds (IsExpr ps) (option_map (λ ts. record { part = found.0; terms = ts }) o)
expr-found ps found (Some ts) e h = (found.1, rw e (part-is ps), h)
expr-found ps found None e none = λ x h. none x.terms (rw e (expr-parts ps x h).1)

pub IsExpr-one : {A : Type 0} (ps : List (List ℕ)) (a b : Expr A) → IsExpr ps a → IsExpr ps b → a ≡ b
IsExpr-one ps a b h k =
    let (p, ts) = expr-parts ps a h in
    let (q, us) = expr-parts ps b k in
    λ i. record { part = (sym p ∙ q) i; terms = AreMoreTerms-one _ a.terms b.terms (plus-terms _ a.terms ts) (plus-terms _ b.terms us) i }

sign-inner : (piece : List ℕ) (m : Bool) → IsSign piece m → is_outer piece ≡ false
sign-inner piece false h = ap is_outer h
sign-inner piece true h = ap is_outer h

more-inner : {A : Type 0} (ps : List (List ℕ)) (ts : List (Signed A)) → AreMoreTerms ps ts → list_any is_outer ps ≡ false
more-inner ps [] h = rw h refl
more-inner ps (t ∷ ts) (sign, piece, more, e, s, k, rest) = rw (e, sign-inner sign t.minus s, (term-not piece t.term k).0) (more-inner more ts rest)

pub expr-inner : {A : Type 0} (ps : List (List ℕ)) (e : Expr A) → IsExpr ps e → list_any is_outer ps ≡ false
expr-inner ps e (rest, p, h) = by_part e.part ps p (more-inner (codes "+" ∷ rest) e.terms (plus-terms rest e.terms h))
  where
    by_part : (p : Part) (ps : List (List ℕ)) → IsPart p ps rest → list_any is_outer rest ≡ false → list_any is_outer ps ≡ false
    by_part Whole ps e h = rw e h
    by_part Low ps e h = rw e h
    by_part High ps e h = rw e h

pub outer-following : (front back : List (List ℕ)) → list_any is_outer back ≡ true → list_any is_outer (front ++ back) ≡ true
outer-following front back h = list_any-append is_outer front back ∙ or_right _ _ h

pub expr-some : {A : Type 0} (ps : List (List ℕ)) (e : Expr A) → IsExpr ps e → 0 < length ps
expr-some [] e h = absurd (no-more (codes "+" ∷ []) e.terms (plus-terms [] e.terms (expr-parts [] e h).1) (omega arith) (omega arith))
expr-some (p ∷ ps) e h = omega arith

-- Expressions separated by commas

inner-comma : (ps : List (List ℕ)) → list_any is_outer ps ≡ false → has_comma ps ≡ false
inner-comma [] h = refl
inner-comma (p ∷ ps) h = let (first, rest) = or_parts _ _ h in rw (inner_first p first) (inner-comma ps rest)
  where
    inner_first : (p : List ℕ) → is_outer p ≡ false → is_byte 44 p ≡ false
    inner_first [] h = refl
    inner_first (c ∷ []) h = grind (arith, nat_tests)
    inner_first (c ∷ d ∷ ds) h = refl

-- the pieces before the first comma are unique
cut-one : (f g a b : List (List ℕ)) → f ++ codes "," ∷ a ≡ g ++ codes "," ∷ b → has_comma f ≡ false → has_comma g ≡ false → (g ≡ f) × (b ≡ a)
cut-one [] [] a b e h k = (refl, ap (drop 1) (sym e))
cut-one [] (q ∷ qs) a b e h k = absurd (false≢true (sym (or_parts (is_byte 44 q) _ k).0 ∙ ap (λ z. is_byte 44 (get_or z 0 [])) (sym e)))
cut-one (p ∷ ps) [] a b e h k = absurd (false≢true (sym (or_parts (is_byte 44 p) _ h).0 ∙ ap (λ z. is_byte 44 (get_or z 0 [])) e))
cut-one (p ∷ ps) (q ∷ qs) a b e h k =
    let first : q ≡ p = cc in
    let (same, following) = cut-one ps qs a b (ap (drop 1) e) (or_parts _ _ h).1 (or_parts _ _ k).1 in
    ((λ i. first i ∷ same i), following)

comma-following : (front back : List (List ℕ)) → has_comma (front ++ codes "," ∷ back) ≡ true
comma-following front back = list_any-append (is_byte 44) front (codes "," ∷ back) ∙ or_right _ _ refl

-- the pieces before the first comma, or all of them, and what follows the comma
abbrev pub IsCut : List (List ℕ) → List (List ℕ) → Option (List (List ℕ)) → Type 0
IsCut pieces front None = (pieces ≡ front) × (has_comma front ≡ false)
IsCut pieces front (Some back) = (pieces ≡ front ++ codes "," ∷ back) × (has_comma front ≡ false)

-- the first expression is before the first comma, and the others are after it
pub exprs-parts : {A : Type 0} (ps front : List (List ℕ)) (back : Option (List (List ℕ))) (es : List (Expr A)) → IsCut ps front back → AreExprs ps es
    → (e : Expr A) × (more : List (Expr A)) × (es ≡ e ∷ more) × IsExpr front e × MatchOption back (more ≡ []) (λ rest. AreExprs rest more)
exprs-parts ps front back [] is h = absurd h
exprs-parts ps front None (e ∷ []) (is, c) h = (e, [], refl, rw is at h, refl)
exprs-parts ps front (Some b) (e ∷ []) (is, c) h =
    absurd (false≢true (sym (inner-comma ps (expr-inner ps e h)) ∙ ap has_comma is ∙ comma-following front b))
exprs-parts ps front None (e ∷ f ∷ fs) (is, c) (g, d, same, k, more) = absurd (false≢true (sym c ∙ ap has_comma (sym is ∙ same) ∙ comma-following g d))
exprs-parts ps front (Some b) (e ∷ f ∷ fs) (is, c) (g, d, same, k, more) =
    let (fronts, backs) = cut-one front g b d (sym is ∙ same) c (inner-comma g (expr-inner g e k)) in
    (e, f ∷ fs, refl, rw fronts at k, rw backs at more)

pub exprs-more : {A : Type 0} (ps front back : List (List ℕ)) (e : Expr A) (more : List (Expr A)) → ps ≡ front ++ codes "," ∷ back → IsExpr front e
    → AreExprs back more → AreExprs ps (e ∷ more)
exprs-more ps front back e [] is h k = absurd k
exprs-more ps front back e (f ∷ fs) is h k = (front, back, is, h, k)

pub AreExprs-one : {A : Type 0} (ps : List (List ℕ)) (a b : List (Expr A)) → AreExprs ps a → AreExprs ps b → a ≡ b
AreExprs-one ps [] b h k = absurd h
AreExprs-one ps (x ∷ []) b h k =
    let (y, ys, is, first, none) = exprs-parts ps ps None b (refl, inner-comma ps (expr-inner ps x h)) k in
    ap (λ z. z ∷ []) (IsExpr-one ps x y h first) ∙ ap (λ z. y ∷ z) (sym none) ∙ sym is
AreExprs-one ps (x ∷ w ∷ ws) b (front, back, e, h, more) k =
    let (y, ys, is, first, others) = exprs-parts ps front (Some back) b (e, inner-comma front (expr-inner front x h)) k in
    let same = IsExpr-one front x y h first in
    (λ i. same i ∷ AreExprs-one back (w ∷ ws) ys more others i) ∙ sym is

abbrev pub now : List (Bor (List ℕ)) → List (List ℕ)
now = map (λ x. x.now)

abbrev pub no_piece : Bor (List ℕ)
no_piece = record { ref_ptr = (0, 0); now = [] }

-- an index at the first comma, or at the end, cuts the pieces there
pub place-cut : (ps : List (Bor (List ℕ))) (end : ℕ) → has_comma (now (take end ps)) ≡ false → (end < length ps → now (drop end ps) ≡ codes "," ∷ now (drop (end + 1) ps))
    → IsCut (now ps) (now (take end ps)) (if nat_lt end (length ps) then Some (now (drop (end + 1) ps)) else None)
place-cut ps end c h = elim (cases_lt end (length ps)) [
  | inl lt ↦ rw (lt-ltb end (length ps) lt)
      (sym (ap now (take-append-drop end ps)) ∙ map-append _ (take end ps) (drop end ps) ∙ ap (λ z. now (take end ps) ++ z) (h lt), c)
  | inr ge ↦ rw (le-ltb end (length ps) ge) (ap now (sym (take_all end ps ge)), c)
]

-- the first two pieces
pub two-pieces : (ps : List (Bor (List ℕ))) → 2 ≤ length ps
    → now ps ≡ (get_or ps 0 no_piece).now ∷ (get_or ps 1 no_piece).now ∷ now (take (length ps - 2) (drop 2 ps))
two-pieces [] h = absurd (omega (arith, h))
two-pieces (p ∷ []) h = absurd (omega (arith, h))
two-pieces (p ∷ q ∷ ps) h = ap (λ z. p.now ∷ q.now ∷ now z) (sym (take_rest (p ∷ q ∷ ps) 2))

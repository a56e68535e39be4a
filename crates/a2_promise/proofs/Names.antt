-- Words and signs that have a meaning, and names that may be bound.
use Rattle.std.specs.Prelude.{◌≡◌, ℕ, ◌<◌, Bool, true, false, not, ◌&&◌, ◌||◌, IsTrue, List, [], ◌∷◌, ◌++◌, map, take, Option, Some, None, IfSome, IfNone, refl}
use Rattle.std.specs.List.{AllByRecursion as ByRecursion, Contains, list_any}
use Rattle.std.specs.Str.{bytes_eq}
use Rattle.std.proofs.Common.{ap, sym, subst, ◌∙◌, arith}
use Rattle.std.proofs.lemmas.List.Elements.{All-contains, All-contains_itself, All-from_recursion, All-take, recursion_from_All}
use Rattle.std.proofs.lemmas.Bool.{or_parts}
use Rattle.std.proofs.lemmas.Slice.Eq.{bytes_eq-Decides}
use Rattle.a2_promise.specs.declared.reading.Class.{Class}
use Rattle.a2_promise.specs.declared.reading.Class.TheVariants as classes
use Rattle.a2_promise.specs.declared.expr.Atom.{Atom}
use Rattle.a2_promise.specs.declared.expr.Operation.{Operation}
use Rattle.a2_promise.specs.declared.expr.Operation.TheVariants as operation
use Rattle.a2_promise.specs.declared.words.Infix.{Infix}
use Rattle.a2_promise.specs.declared.words.Infix.TheVariants.{Iff, Or, And, Compare, Apply}
use Rattle.a2_promise.specs.declared.words.Opening.{Opening}
use Rattle.a2_promise.specs.declared.words.Relation.{Relation}
use Rattle.a2_promise.specs.declared.words.Relation.TheVariants as relation
use Rattle.a2_promise.specs.declared.words.TheConstants.{INFIXES, HELD, OPENINGS}
use Rattle.a2_promise.specs.Tokens.{Token, word, sign}
use Rattle.a2_promise.specs.Written.{atom_name, infix_token}
use Rattle.a2_promise.specs.Grammar.{infix_rank, is_name_among, openings, may_count, tightest}
use Rattle.a2_promise.specs.PromisedTerms.{change_names}
use Rattle.a2_promise.specs.Reading.{is_listed, opening_token, token_of}

pub unequal : (b : Bool) → (b ≡ true → ⊥) → b ≡ false
unequal true h = absurd (h refl)
unequal false h = refl

pub differs : (text name : List ℕ) → (name ≡ text → ⊥) → bytes_eq text name ≡ false
differs text name h = unequal (bytes_eq text name) (λ e. h (sym ((bytes_eq-Decides text name).0 e)))

pub two : (b c : Bool) → b ≡ false → c ≡ false → (b || c) ≡ false
two b c p q = rw (p, q) refl

both : (b c : Bool) → b ≡ false → c ≡ false → IsTrue (not b && not c)
both b c p q = rw (p, q) refl

pub if_some : {X : Type 0} (found : Option X) (P Q : X → Type 0) → ((x : X) → P x → Q x) → IfSome found P → IfSome found Q
if_some None P Q f h = tt
if_some (Some x) P Q f h = f x h

pub if_none : {X : Type 0} (found : Option X) (P Q : Type 0) → (P → Q) → IfNone found P → IfNone found Q
if_none None P Q f h = f h
if_none (Some x) P Q f h = tt

-- a word or sign determines its class and its text
pub word_class : (class : Class) (bytes name : List ℕ) → token_of class bytes ≡ Some (word name) → (class ≡ classes.Word) × (bytes ≡ name)
word_class classes.Word bytes name e = (refl, (let same : bytes ≡ name = cc in same))
word_class _ bytes name e = absurd (let no : ⊥ = cc in no)

pub sign_class : (class : Class) (bytes name : List ℕ) → token_of class bytes ≡ Some (sign name) → (class ≡ classes.Sign) × (bytes ≡ name)
sign_class classes.Sign bytes name e = (refl, (let same : bytes ≡ name = cc in same))
sign_class _ bytes name e = absurd (let no : ⊥ = cc in no)

-- Tables

abbrev Row : Type 0 → Type 0
Row T = Class × List ℕ × T

-- if each row of a table agrees with the spelling of its meaning, so does any token with a meaning
pub token_by : {T : Type 0} (P : T → Option Token → Type 0) (rows : List (Row T)) (class : Class) (text : List ℕ) (it : T)
    → ByRecursion (λ row. P row.2 (token_of row.0 row.1)) rows → Contains rows (class, text, it) → P it (token_of class text)
token_by {T} P rows class text it all listed =
    let Q : Row T → Type 0 = λ row. P row.2 (token_of row.0 row.1) in
    All-contains Q rows (class, text, it) (All-from_recursion Q rows all) listed

-- a word that is not in a table differs from the texts in it that are words
none_among : {T : Type 0} (rows some : List (Row T)) (text : List ℕ) → ByRecursion (Contains rows) some → ByRecursion (λ row. row.0 ≡ classes.Word) some
    → ((it : T) → Contains rows (classes.Word, text, it) → ⊥) → list_any (bytes_eq text) (map (λ row. row.1) some) ≡ false
none_among rows [] text within words none = refl
none_among rows (row ∷ some) text within words none =
    two _ _ (differs text row.1 (λ e. none row.2 (rw (words.0, e) at within.0))) (none_among rows some text within.1 words.1 none)

none_of_both : (test : List ℕ → Bool) (names more : List (List ℕ)) → list_any test names ≡ false → list_any test more ≡ false
    → list_any test (names ++ more) ≡ false
none_of_both test [] more p q = q
none_of_both test (name ∷ names) more p q =
    let parts = or_parts (test name) (list_any test names) p in two _ _ parts.0 (none_of_both test names more parts.1 q)

-- Operators

abbrev joints : List (Row Infix)
joints = map (λ row. (row.0, row.1.now, row.2)) INFIXES

abbrev IsJoint : Infix → Option Token → Type 0
IsJoint join token = (token ≡ Some (infix_token join)) × (infix_rank join < tightest)

pub joint_found : (class : Class) (text : List ℕ) (join : Infix) → Contains joints (class, text, join) → IsJoint join (token_of class text)
joint_found class text join listed =
    token_by IsJoint joints class text join
    ((refl, omega arith), ((refl, omega arith), ((refl, omega arith), ((refl, omega arith), ((refl, omega arith), ((refl, omega arith), ((refl, omega arith), ((refl, omega arith), ((refl, omega arith), ((refl, omega arith), ((refl, omega arith), ((refl, omega arith), ((refl, omega arith), ((refl, omega arith), ((refl, omega arith), ((refl, omega arith), ((refl, omega arith), tt))))))))))))))))) listed

abbrev IsNone : Class → List ℕ → Type 0
IsNone class text = (join : Infix) → Contains joints (class, text, join) → ⊥

-- a token that is not an operator differs from each of their tokens
no_word : (class : Class) (text name : List ℕ) (join : Infix) → IsNone class text → Contains joints (classes.Word, name, join)
    → token_of class text ≡ Some (word name) → ⊥
no_word class text name join none listed e = let w = word_class class text name e in none join (rw (w.0, w.1) listed)

no_sign : (class : Class) (text name : List ℕ) (join : Infix) → IsNone class text → Contains joints (classes.Sign, name, join)
    → token_of class text ≡ Some (sign name) → ⊥
no_sign class text name join none listed e = let w = sign_class class text name e in none join (rw (w.0, w.1) listed)

no_comparison : (class : Class) (text : List ℕ) → IsNone class text → (by : Relation) → token_of class text ≡ Some (infix_token (Compare by)) → ⊥
no_comparison class text n relation.Equal e = no_sign class text _ (Compare relation.Equal) n (3, omega arith, refl) e
no_comparison class text n relation.Other e = no_sign class text _ (Compare relation.Other) n (4, omega arith, refl) e
no_comparison class text n relation.Less e = no_sign class text _ (Compare relation.Less) n (5, omega arith, refl) e
no_comparison class text n relation.AtMost e = no_sign class text _ (Compare relation.AtMost) n (6, omega arith, refl) e
no_comparison class text n relation.More e = no_sign class text _ (Compare relation.More) n (7, omega arith, refl) e
no_comparison class text n relation.AtLeast e = no_sign class text _ (Compare relation.AtLeast) n (8, omega arith, refl) e

no_operation : (class : Class) (text : List ℕ) → IsNone class text → (op : Operation) → token_of class text ≡ Some (infix_token (Apply op))
    → infix_rank (Apply op) < tightest → ⊥
no_operation class text n operation.BitOr e l = no_sign class text _ (Apply operation.BitOr) n (9, omega arith, refl) e
no_operation class text n operation.BitXor e l = no_sign class text _ (Apply operation.BitXor) n (10, omega arith, refl) e
no_operation class text n operation.BitAnd e l = no_sign class text _ (Apply operation.BitAnd) n (11, omega arith, refl) e
no_operation class text n operation.Plus e l = no_sign class text _ (Apply operation.Plus) n (12, omega arith, refl) e
no_operation class text n operation.Minus e l = no_sign class text _ (Apply operation.Minus) n (13, omega arith, refl) e
no_operation class text n operation.Times e l = no_sign class text _ (Apply operation.Times) n (14, omega arith, refl) e
no_operation class text n operation.Over e l = no_sign class text _ (Apply operation.Over) n (15, omega arith, refl) e
no_operation class text n operation.Modulo e l = no_sign class text _ (Apply operation.Modulo) n (16, omega arith, refl) e
no_operation class text n _ e l = absurd (omega (arith, l))

pub no_joint : (class : Class) (text : List ℕ) → IsNone class text → (join : Infix) → token_of class text ≡ Some (infix_token join)
    → infix_rank join < tightest → ⊥
no_joint class text n Iff e l = no_word class text _ Iff n (0, omega arith, refl) e
no_joint class text n Or e l = no_word class text _ Or n (1, omega arith, refl) e
no_joint class text n And e l = no_word class text _ And n (2, omega arith, refl) e
no_joint class text n (Compare by) e l = no_comparison class text n by e
no_joint class text n (Apply op) e l = no_operation class text n op e l

-- Openings of expressions

abbrev atoms : List (Row Atom)
atoms = map (λ row. (row.0, row.1.now, row.2)) HELD

abbrev IsHeld : Atom → Option Token → Type 0
IsHeld it token = (token ≡ Some (word (atom_name it))) × IsTrue (is_listed it)

pub held_found : (class : Class) (text : List ℕ) (it : Atom) → Contains atoms (class, text, it) → IsHeld it (token_of class text)
held_found class text it listed =
    token_by IsHeld atoms class text it ((refl, refl), ((refl, refl), ((refl, refl), ((refl, refl), ((refl, refl), ((refl, refl), ((refl, refl), ((refl, refl), ((refl, refl), ((refl, refl), tt)))))))))) listed

pub none_held : (class : Class) (text : List ℕ) → ((it : Atom) → Contains atoms (class, text, it) → ⊥) → class ≡ classes.Word
    → is_name_among change_names text ≡ false
none_held class text none w =
    let P : Class → Type 0 = λ class. (it : Atom) → Contains atoms (class, text, it) → ⊥ in
    none_among atoms atoms text (recursion_from_All (Contains atoms) atoms (All-contains_itself atoms))
    (refl, (refl, (refl, (refl, (refl, (refl, (refl, (refl, (refl, (refl, tt)))))))))) (subst P w none)

abbrev others : List (Row Opening)
others = map (λ row. (row.0, row.1.now, row.2)) OPENINGS

abbrev IsOpening : Opening → Option Token → Type 0
IsOpening it token = token ≡ Some (opening_token it)

pub opening_found : (class : Class) (text : List ℕ) (it : Opening) → Contains others (class, text, it) → IsOpening it (token_of class text)
opening_found class text it listed =
    token_by IsOpening others class text it
    (refl, (refl, (refl, (refl, (refl, (refl, (refl, (refl, (refl, (refl, (refl, (refl, (refl, (refl, (refl, (refl, (refl, (refl, (refl, tt))))))))))))))))))) listed

-- the first ones are words
pub none_opens : (class : Class) (text : List ℕ) → (class ≡ classes.Word → is_name_among change_names text ≡ false)
    → ((it : Opening) → Contains others (class, text, it) → ⊥) → class ≡ classes.Word → is_name_among openings text ≡ false
none_opens class text held none w =
    let P : Class → Type 0 = λ class. (it : Opening) → Contains others (class, text, it) → ⊥ in
    let words : List (Row Opening) = take 15 others in
    none_of_both (bytes_eq text) change_names (map (λ (row : Row Opening). row.1) words) (held w)
    (none_among others words text (recursion_from_All (Contains others) words (All-take (Contains others) 15 others (All-contains_itself others)))
    (refl, (refl, (refl, (refl, (refl, (refl, (refl, (refl, (refl, (refl, (refl, (refl, (refl, (refl, (refl, tt))))))))))))))) (subst P w none))

-- a word that opens nothing and is not an operator may be bound
pub may : (text : List ℕ) → is_name_among openings text ≡ false
    → ((join : Infix) → token_of classes.Word text ≡ Some (infix_token join) → infix_rank join < tightest → ⊥) → IsTrue (may_count text)
may text h none =
    let no : (join : Infix) (name : List ℕ) → infix_token join ≡ word name → infix_rank join < tightest → bytes_eq text name ≡ false =
    λ join name e l. differs text name (λ same. none join (ap (λ n. Some (word n)) (sym same) ∙ ap (λ t. Some t) (sym e)) l) in
    both _ _ h (two _ _ (no Iff _ refl (omega arith)) (two _ _ (no Or _ refl (omega arith)) (two _ _ (no And _ refl (omega arith)) refl)))

-- Reading of each kind of expression.
use Rattle.std.specs.Prelude.{◌≡◌, ℕ, pos, Bool, true, false, not, ◌||◌, IsTrue, List, [], ◌∷◌, length, codes, Option, Some, None, refl, if◌then◌else◌}
use Rattle.std.specs.Str.{bytes_eq}
use Rattle.std.proofs.Common.{ap, sym, ◌∙◌}
use Rattle.std.proofs.lemmas.Bool.Decides.{Decides-eqb}
use Rattle.a2_asm.specs.Values.{name_value}
use Rattle.a2_promise.specs.declared.expr.Atom.{Atom}
use Rattle.a2_promise.specs.declared.expr.Function.TheVariants as function
use Rattle.a2_promise.specs.declared.expr.Operation.TheVariants as operation
use Rattle.a2_promise.specs.declared.words.Kind.{Kind}
use Rattle.a2_promise.specs.declared.words.Kind.TheVariants as kinds
use Rattle.a2_promise.specs.declared.parts.Part.TheVariants as part
use Rattle.a2_promise.specs.declared.parsing.Piece.{Piece}
use Rattle.a2_promise.specs.Tokens.{Token, word, sign}
use Rattle.a2_promise.specs.Tokens as token
use Rattle.a2_promise.specs.Written.{spelled, meant, atom_name}
use Rattle.a2_promise.specs.Written.{decimal, literal, byte, atom, counted, group, minus, magnitude, signed, before, there, negated}
use Rattle.a2_promise.specs.Grammar.{fits, atom_kind, is_number, is_fact, is_just, is_digits, is_free, is_name_among, openings, number_among, number_of, address_of, tightest}
use Rattle.a2_promise.specs.Reading.{State, Takes, Puts, ReadsKind, ReadsOne, ReadsPiece, ReadsToken, first, made, negating, number_parts, parts_of_address}
use Rattle.a2_promise.proofs.Goings.{also, went, took, put, last, ◌>>◌, stops_both, fits_at, one_read, closed_read, one_by_rank}

-- a number is its value
pub just : {n : ℕ} {found : Option ℕ} → found ≡ Some n → IsTrue (is_just n found)
just {n} e = rw e ((Decides-eqb n n).1 refl)

-- forms of one token

pub literal_read : {a m b : State} → Takes (sign (codes "#")) a m → ReadsToken number_of number_parts m b → ReadsKind kinds.Number a b
unfolding spelled meant fits made
literal_read t r = closed_read (literal r.token r.n) (took t >> went r.goes) t.scope (just r.value) refl refl refl refl

digits_by : {t : Token} {digits : List ℕ} {left more : List Token} → left ≡ t ∷ more → first left ≡ Some (token.decimal digits) → IsTrue (is_digits t)
digits_by {t} {digits} h f = let same : t ≡ token.decimal digits = (let s = sym (ap first h) ∙ f in cc) in rw same refl

pub decimal_read : {digits : List ℕ} {a b : State} → first a.left ≡ Some (token.decimal digits) → ReadsToken number_of number_parts a b
    → ReadsKind kinds.Number a b
unfolding spelled meant fits made
decimal_read f r = closed_read (decimal r.token r.n) (went r.goes) refl (also (digits_by r.goes.left f) (just r.value)) refl refl refl refl

pub byte_read : {a b : State} (r : ReadsToken address_of (parts_of_address function.Byte) a b) → IsTrue (is_free a.scope.around r.token) → ReadsKind kinds.Number a b
unfolding spelled meant fits made
byte_read r f = closed_read (byte r.token r.n) (went r.goes) refl (also f (just r.value)) refl refl refl refl

none_there : (around : List (List ℕ)) (name : List ℕ) → number_among around name ≡ None → is_name_among around name ≡ false
none_there [] name e = refl
none_there (one ∷ around) name e = by (bytes_eq name one) e (none_there around name)
  where
    by : (b : Bool) → (if b then Some (length around) else number_among around name) ≡ None
        → (number_among around name ≡ None → is_name_among around name ≡ false) → (b || is_name_among around name) ≡ false
    by true e h = cc
    by false e h = h e

pub free_name : (around : List (List ℕ)) (name : List ℕ) → is_name_among openings name ≡ false → number_among around name ≡ None
    → IsTrue (is_free around (word name))
free_name around name o n = also (ap not o) (ap not (none_there around name n))

pub free_other : (around : List (List ℕ)) (t : Token) → ((name : List ℕ) → t ≡ word name → IsTrue (is_free around (word name))) → IsTrue (is_free around t)
free_other around (word name) h = h name refl
free_other around _ h = refl

pub counted_read : {name : List ℕ} {k : ℕ} {a m b : State} → Takes (word name) a m → number_among a.scope.around name ≡ Some k
    → Puts (part.Bound k ∷ []) m b → ReadsKind kinds.Number a b
unfolding spelled meant fits made
counted_read {name} {k} t n p = closed_read (counted name k) (took t >> put p) refl (just n) refl refl refl refl

pub atom_read : {it : Atom} {a m b : State} → Takes (word (atom_name it)) a m → Puts (part.Held it ∷ []) m b → ReadsKind (atom_kind it) a b
unfolding spelled meant fits made
atom_read {it} t p = closed_read (atom it) (took t >> put p) refl refl refl refl refl refl

-- an expression in parentheses

pub group_read : {piece : Piece} {limit : ℕ} {a m n b : State} → Takes (sign (codes "(")) a m → ReadsPiece limit piece m n → Takes (sign (codes ")")) n b
    → ReadsKind piece.kind a b
unfolding spelled meant fits made
group_read t r u = closed_read (group r.e) (took t >> r.reads.steps >> took u) t.scope r.reads.fits refl refl refl r.is.kind

-- what a word before it makes of one number or fact

pub before_read : {k : Kind} {a m n b : State} → Takes (word (codes "old")) a m → ReadsKind k m n → Puts (part.Old ∷ []) n b → ReadsKind k a b
unfolding spelled meant fits made
before_read t r p =
    one_read (before r.e) (took t >> last r.reads.steps p) t.scope (also (one_by_rank r.e r.rank) r.reads.fits)
    (rw p.left r.reads.stops) (rw p.left r.reads.no_else) refl r.kind

pub magnitude_read : {a m n b : State} → Takes (word (codes "abs")) a m → ReadsOne tightest is_number m n → Puts (part.Of function.Abs ∷ []) n b
    → ReadsKind kinds.Number a b
unfolding spelled meant fits made
magnitude_read t r p =
    one_read (magnitude r.e) (took t >> last r.reads.steps p) t.scope (also (also (one_by_rank r.e r.rank) r.is) r.reads.fits)
    (rw p.left r.reads.stops) (rw p.left r.reads.no_else) refl refl

pub signed_read : {a m n b : State} → Takes (word (codes "signed")) a m → ReadsOne tightest is_number m n → Puts (part.Of function.Signed ∷ []) n b
    → ReadsKind kinds.Number a b
unfolding spelled meant fits made
signed_read t r p =
    one_read (signed r.e) (took t >> last r.reads.steps p) t.scope (also (also (one_by_rank r.e r.rank) r.is) r.reads.fits)
    (rw p.left r.reads.stops) (rw p.left r.reads.no_else) refl refl

pub negated_read : {a m n b : State} → Takes (word (codes "not")) a m → ReadsOne 4 is_fact m n → Puts negating n b → ReadsKind kinds.Fact a b
unfolding spelled meant fits made
negated_read t r p =
    one_read (negated r.e) (took t >> last r.reads.steps p) t.scope (also (also r.rank r.is) r.reads.fits)
    (rw p.left (stops_both _ r.stops r.reads.stops)) (rw p.left r.reads.no_else) refl refl

pub there_read : {k : Kind} {label : List ℕ} {address : ℕ} {a m n o b : State} → Takes (word (codes "at")) a m → Takes (word label) m n
    → IsTrue m.scope.is_within → name_value m.scope.names label ≡ Some address → ReadsKind k n o → Puts (part.At address ∷ []) o b
    → ReadsKind k a b
unfolding spelled meant fits made
there_read {label = label} {address} t u w v r p =
    one_read (there label address r.e) (took t >> took u >> last r.reads.steps p) t.scope
    (also (also (also w (just v)) (one_by_rank r.e r.rank)) (fits_at r.reads u.scope))
    (rw p.left r.reads.stops) (rw p.left r.reads.no_else) refl r.kind

pub minus_read : {a m n o b : State} → Takes (sign (codes "-")) a m → Puts (part.Number (pos 0) ∷ []) m n → ReadsOne tightest is_number n o
    → Puts (part.Pair operation.Minus ∷ []) o b → ReadsKind kinds.Number a b
unfolding spelled meant fits made
minus_read t q r p =
    one_read (minus r.e) (took t >> put q >> last r.reads.steps p) (q.scope ∙ t.scope) (also (also (one_by_rank r.e r.rank) r.is) r.reads.fits)
    (rw p.left r.reads.stops) (rw p.left r.reads.no_else) refl refl

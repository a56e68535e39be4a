-- Reading of counts, texts in memory, and expressions in parentheses or brackets.
use Rattle.std.specs.Prelude.{◌≡◌, ◌<◌, ◌≤◌, ℕ, suc, ◌+◌, pos, min, nat_le, false, ◌&&◌, IsTrue, List, [], ◌∷◌, ◌++◌, length, codes, Option, Some, None, Result, Ok, Err, IfOk, IfNone, refl}
use Rattle.std.proofs.Common.{ap, sym, subst, ◌∙◌, arith, append_assoc, length-append}
use Rattle.std.proofs.lemmas.Bool.{leb-true, le-leb, lt-ltb}
use Rattle.std.proofs.lemmas.Bool.Decides.{Decides-eqb}
use Rattle.a2_promise.specs.declared.expr.Function.TheVariants as function
use Rattle.a2_promise.specs.declared.expr.Operation.TheVariants as operation
use Rattle.a2_promise.specs.declared.words.Infix.{Infix}
use Rattle.a2_promise.specs.declared.words.Kind.TheVariants as kinds
use Rattle.a2_promise.specs.declared.parts.Part.{Part}
use Rattle.a2_promise.specs.declared.parts.Part.TheVariants as part
use Rattle.a2_promise.specs.declared.parsing.Piece.{Piece}
use Rattle.a2_promise.specs.declared.parsing.Place.{Place}
use Rattle.a2_promise.specs.declared.parsing.Place.TheVariants.{Fixed, Made}
use Rattle.a2_promise.specs.declared.reading.Class.{Class}
use Rattle.a2_promise.specs.declared.reading.Class.TheVariants as classes
use Rattle.a2_promise.specs.declared.words.Kind.{Kind}
use Rattle.a2_promise.specs.Phrases.{Phrase}
use Rattle.a2_promise.specs.Phrases as phrase
use Rattle.a2_promise.specs.Tokens.{Token, word, sign, quoted}
use Rattle.a2_promise.specs.Written.{Written, joined, spelled, said, meant, infix_token, are_laid}
use Rattle.a2_promise.specs.Written.{byte_in, word_of, word_in, text, text_in, least, greatest, for_all, sum_of}
use Rattle.a2_promise.specs.Grammar.{Scope, fits, inside, infix_rank, is_number, is_fact, is_free, is_name_among, is_text, openings, number_among, address_of, may_be_number, may_be_fact, may_count, rank, tightest}
use Rattle.a2_promise.specs.Reading.{State, Takes, Puts, Steps, Reads, ReadsKind, ReadsSuch, ReadsOne, ReadsPiece, ReadsAddress, ReadsThen, ReadsToken, ReadsTwo, ReadsCounted, ReadsPlace, Binds, Unbinds, PutsOf, IsPlaced, IsEither, Stops, first, made, parts_of_address, token_of}
use Rattle.a2_promise.proofs.Formers.{just, free_other, free_name}
use Rattle.a2_promise.proofs.Goings.{also, took, put, went, last, ◌>>◌, as_made, stops_both, fits_at, one_read, closed_read}
use Rattle.a2_promise.proofs.Joinings.{one_of_read, made_kept, slice_put}
use Rattle.std.proofs.lemmas.List.{append-nil}
use Rattle.a2_promise.proofs.Marks.{same_rank}
use Rattle.a2_promise.proofs.Names.{word_class}

-- Two numbers in parentheses

pub two_read : {a m n o q b : State} → Takes (sign (codes "(")) a m → ReadsOne 1 is_number m n → Takes (sign (codes ",")) n o
    → ReadsOne 1 is_number o q → Takes (sign (codes ")")) q b → ReadsTwo a b
two_read t r u s v = record {
  e = r.e;
  f = s.e;
  steps = rw append_assoc (took t >> r.reads.steps >> took u >> s.reads.steps >> took v);
  fit = also (also (also r.is s.is) (fits_at r.reads t.scope)) (fits_at s.reads (u.scope ∙ r.reads.steps.scope ∙ t.scope));
}

pub least_read : {a m n b : State} → Takes (word (codes "min")) a m → ReadsTwo m n → Puts (part.Pair operation.Min ∷ []) n b → ReadsKind kinds.Number a b
unfolding spelled meant fits made
least_read t r p = closed_read (least r.e r.f) (took t >> last r.steps p) t.scope r.fit refl refl refl refl

pub greatest_read : {a m n b : State} → Takes (word (codes "max")) a m → ReadsTwo m n → Puts (part.Pair operation.Max ∷ []) n b
    → ReadsKind kinds.Number a b
unfolding spelled meant fits made
greatest_read t r p = closed_read (greatest r.e r.f) (took t >> last r.steps p) t.scope r.fit refl refl refl refl

-- Between [ and ]

pub address_read : {a m b : State} → ReadsOne 1 is_number a m → Takes (sign (codes "]")) m b → ReadsAddress a b
address_read r t = record { e = r.e; steps = r.reads.steps >> took t; fit = also r.is r.reads.fits }

pub byte_in_read : {a m n b : State} → Takes (sign (codes "[")) a m → ReadsAddress m n → Puts (part.Of function.Byte ∷ []) n b
    → ReadsKind kinds.Number a b
unfolding spelled meant fits made
byte_in_read t r p = closed_read (byte_in r.e) (took t >> last r.steps p) t.scope r.fit refl refl refl refl

pub word_in_read : {z a m n b : State} → Takes (word (codes "word")) z a → Takes (sign (codes "[")) a m → ReadsAddress m n
    → Puts (part.Of function.Word ∷ []) n b → ReadsKind kinds.Number z b
unfolding spelled meant fits made
word_in_read w t r p = closed_read (word_in r.e) (took w >> took t >> last r.steps p) (t.scope ∙ w.scope) r.fit refl refl refl refl

pub word_of_read : {z a b : State} → Takes (word (codes "word")) z a → ReadsToken address_of (parts_of_address function.Word) a b
    → ReadsKind kinds.Number z b
unfolding spelled meant fits made
word_of_read w r = closed_read (word_of r.token r.n) (took w >> went r.goes) w.scope (just r.value) refl refl refl refl

-- The head of a count

pub counted_head : {name : List ℕ} {k : ℕ} {a m n o q b : State} → Takes (word name) a m → IsTrue (may_count name) → Takes (sign (codes "<")) m n
    → ReadsOne 6 is_number n o → Takes (sign (codes ":")) o q → Binds name k q b → ReadsCounted k a b
counted_head {name} {k} {a} {n = n} t c u r v w =
    let around = ap (λ scope. length scope.around) (sym (v.scope ∙ r.reads.steps.scope ∙ u.scope ∙ t.scope)) ∙ w.number in
    record {
      name = name;
      e = r.e;
      middle = _;
      steps = took t >> took u >> r.reads.steps >> took v;
      binds = w;
      fit = also (also (also (also c ((Decides-eqb _ _).1 around)) (lt-ltb k 4 w.room)) r.rank) r.is;
      fits = fits_at r.reads (u.scope ∙ t.scope);
    }

-- the body of a count; after it the name is no longer bound
counted_on : {k : ℕ} {f : Written} {a m n o : State} (c : ReadsCounted k a m) → Reads f m n → Unbinds k n o
    → Steps (word c.name ∷ sign (codes "<") ∷ (spelled c.e ++ sign (codes ":") ∷ spelled f)) (λ phrases. said f ∷ said c.e ∷ phrases) a o
counted_on {f = f} c r u =
    let q = c.middle in
    let read : Steps (spelled f) (λ phrases. said f ∷ phrases) q _ = record {
      left = sym c.binds.left ∙ r.steps.left ∙ ap (λ left. spelled f ++ left) (sym u.left);
      parts = r.steps.parts;
      puts = u.parts ∙ r.steps.puts ∙ ap (λ before. before ++ r.steps.parts) c.binds.parts;
      makes = r.steps.makes;
      scope = u.scope c.name q.scope (r.steps.scope ∙ c.binds.scope) c.binds.number;
    } in
    rw append_assoc at (c.steps >> read)

counted_fits : {k : ℕ} {f : Written} {a m n : State} (c : ReadsCounted k a m) → Reads f m n → IsTrue (fits (inside c.name a.scope) f)
counted_fits c r = fits_at r (c.binds.scope ∙ ap (inside c.name) c.steps.scope)

pub for_all_read : {k : ℕ} {y z a m n o b : State} → Takes (word (codes "for")) y z → Takes (word (codes "all")) z a → ReadsCounted k a m
    → ReadsOne 1 is_fact m n → Unbinds k n o → Puts (part.Each k ∷ []) o b → ReadsKind kinds.Fact y b
unfolding spelled meant fits made
for_all_read {k} s t c r u p =
    one_read (for_all c.name k c.e r.e) (took s >> took t >> last (counted_on c r.reads u) p) (t.scope ∙ s.scope)
    (also (also (also c.fit r.is) c.fits) (counted_fits c r.reads))
    (rw (p.left, u.left) r.stops) (rw (p.left, u.left) r.reads.no_else) refl refl

pub sum_read : {k : ℕ} {z a m n o b : State} → Takes (word (codes "sum")) z a → ReadsCounted k a m
    → ReadsOne 6 is_number m n → Unbinds k n o → Puts (part.Sum k ∷ []) o b → ReadsKind kinds.Number z b
unfolding spelled meant fits made
sum_read {k} t c r u p =
    one_read (sum_of c.name k c.e r.e) (took t >> last (counted_on c r.reads u) p) t.scope
    (also (also (also (also c.fit r.rank) r.is) c.fits) (counted_fits c r.reads))
    (rw (p.left, u.left) (stops_both _ r.stops r.reads.stops)) (rw (p.left, u.left) r.reads.no_else) refl refl

-- A text in memory

pub place_made : {a m b : State} (begun ended : ℕ) → begun ≡ length a.parts → Takes (sign (codes "[")) a m → ReadsAddress m b
    → ended ≡ length b.parts → ReadsPlace (Made (record { begun = begun; ended = ended })) a b
place_made {a} {b = b} begun ended i t r j =
    let steps = took t >> r.steps in
    let same = slice_put a.parts steps.parts b.parts begun ended steps.puts i j in (
      r.e,
      steps,
      (let P : Scope → Type 0 = λ scope. IsTrue (is_number r.e && fits scope r.e) in subst P t.scope r.fit),
      (omega (arith, j), λ phrases. ap (λ parts. made parts phrases) same ∙ steps.makes phrases),
    )

pub text_read : (place : Place) {quote : ℕ} {characters : List ℕ} {z a m n o b : State} → Takes (word (codes "text")) z a → ReadsPlace place a m
    → Takes (sign (codes "=")) m n → Takes (quoted quote characters) n o → IsTrue (is_text quote characters)
    → ((phrase : ℕ → Phrase) (top : List Phrase) → IsPlaced place phrase top o.parts → PutsOf top (are_laid quote phrase characters) o b)
    → ReadsKind kinds.Fact z b
unfolding spelled meant fits made
text_read (Fixed address) {quote} {characters} w r t u good lay =
    let laid = lay (λ k. phrase.number (pos (address + k))) [] (λ k. refl, refl) in
    closed_read (text r.0 address quote characters) (as_made (took w >> took r.1 >> took t >> took u >> put laid.puts) laid.makes)
    w.scope (also (just r.2) good) refl refl refl refl
text_read (Made span) {quote} {characters} {m = m} {o = o} w r t u good lay =
    let e = r.0 in
    let kept = made_kept span (said e) m.parts [] o.parts (u.parts ∙ t.parts ∙ sym (append-nil m.parts)) r.3 in
    let laid = lay (λ k. phrase.pair operation.Plus (said e) (phrase.number (pos k))) (said e ∷ []) (said e, λ k. refl, refl, kept) in
    closed_read (text_in e quote characters) (as_made (took w >> r.1 >> took t >> took u >> put laid.puts) laid.makes)
    w.scope (also r.2 good) refl refl refl refl

-- Reading an expression of a given kind

such : {limit : ℕ} {P Q : Written → Type 0} {a b : State} → ReadsSuch limit P a b → ((e : Written) → P e → Q e) → ReadsSuch limit Q a b
such r f = record { e = r.e; reads = r.reads; rank = r.rank; is = f r.e r.is; stops = r.stops }

pub number_one : {limit : ℕ} {piece : Piece} {a b : State} → ReadsPiece limit piece a b → IsTrue (may_be_number piece.kind) → ReadsOne limit is_number a b
number_one r t = such r (λ e is. rw is.kind t)

pub fact_one : {limit : ℕ} {piece : Piece} {a b : State} → ReadsPiece limit piece a b → IsTrue (may_be_fact piece.kind) → ReadsOne limit is_fact a b
fact_one r t = such r (λ e is. rw is.kind t)

-- The kind of an `if` with two branches

pub either_read : {one other : Piece} {k : Kind} {a m n o q s u b : State} → Takes (word (codes "if")) a m → ReadsOne 1 is_fact m n
    → Takes (word (codes "then")) n o → ReadsPiece 1 one o q → Takes (word (codes "else")) q s → ReadsPiece 1 other s u → Puts (part.Choice ∷ []) u b
    → IsEither one.kind other.kind k → ReadsKind k a b
either_read t r v f w g p is = one_of_read t r v f.reads w g.reads g.stops p (rw (f.is.kind, g.is.kind) is.0) (rw (f.is.kind, g.is.kind) is.1)

-- The loop of an expression

pub stops_under : (limit : ℕ) (join : Infix) (left : List Token) → first left ≡ Some (infix_token join) → infix_rank join < limit
    → infix_rank join < tightest → Stops limit left
stops_under limit join left f l below = λ other g m.
    let e : infix_token join ≡ infix_token other = (let s : Some (infix_token join) ≡ Some (infix_token other) = sym f ∙ g in cc) in
    let r = same_rank join other e below m in
    omega (arith, l, r)

pub shorter_joined : {join : Infix} {e f : Written} {a m b : State} → Reads e a m → Reads (joined join e f) a b → length b.left < length m.left
unfolding spelled
shorter_joined {join} {e} {f} {m = m} {b} r s =
    let one = ap length r.steps.left in
    let two = ap length s.steps.left in
    let x = length-append (spelled e) m.left in
    let y = length-append (spelled e ++ infix_token join ∷ spelled f) b.left in
    let z = length-append (spelled e) (infix_token join ∷ spelled f) in
    omega (arith, one, two, x, y, z)

pub rank_min : (limit : ℕ) (e : Written) → IsTrue (nat_le tightest (rank e)) → IsTrue (nat_le (min limit tightest) (rank e))
rank_min limit e h = le-leb (min limit tightest) (rank e) (omega (arith, leb-true 10 (rank e) h))

pub rank_joined : (limit n : ℕ) (join : Infix) → n ≡ infix_rank join → limit ≤ n → IsTrue (nat_le (min limit tightest) (infix_rank join))
rank_joined limit n join h l = le-leb (min limit tightest) (infix_rank join) (omega (arith, h, l))

pub if_ok : {T E : Type 0} (r : Result T E) {P Q : T → Type 0} → ((x : T) → P x → Q x) → IfOk r P → IfOk r Q
if_ok (Ok x) f h = f x h
if_ok (Err e) f h = tt

-- a successful result has the recorded kind
pub kind_ok : {E : Type 0} (r : Result Kind E) {k : Kind} {P : Type 0} {a b : State} → IfOk r (λ made. (made ≡ k) × P) → (P → ReadsKind k a b)
    → IfOk r (λ made. ReadsKind made a b)
kind_ok (Ok made) h f = rw h.0 (f h.1)
kind_ok (Err e) h f = tt

-- a number made from what was read
pub then_put : (reads : State → State → Type 0) {it : Part} {a m b : State} → reads a m → Puts (it ∷ []) m b → ReadsThen reads it a b
then_put reads {m = m} read p = record { middle = m; read = read; puts = p }

pub number_then : {E : Type 0} (r : Result Kind E) {P Q : Type 0} → (P → Q) → IfOk r (λ kind. (kind ≡ kinds.Number) × P)
    → IfOk r (λ kind. (kind ≡ kinds.Number) × Q)
number_then (Ok kind) f h = (h.0, f h.1)
number_then (Err e) f h = tt

pub limit_of : (r n : ℕ) (join : Infix) → n ≡ infix_rank join → infix_rank join < tightest → r ≡ min (n + 1) 255 → min r tightest ≡ suc (infix_rank join)
limit_of r n join h below e = omega (arith, h, below, e)

pub of_none : {X : Type 0} (found : Option X) {P : Type 0} → ((x : X) → found ≡ Some x → ⊥) → IfNone found P → P
of_none None h p = p
of_none (Some x) h p = absurd (h x refl)

pub byte_free : (class : Class) (bytes : List ℕ) {a b : State} (r : ReadsToken address_of (parts_of_address function.Byte) a b) → token_of class bytes ≡ first a.left
    → (class ≡ classes.Word → is_name_among openings bytes ≡ false) → (class ≡ classes.Word → number_among a.scope.around bytes ≡ None)
    → IsTrue (is_free a.scope.around r.token)
byte_free class bytes {a} r f o n =
    free_other a.scope.around r.token (λ name e.
    let w = word_class class bytes name (f ∙ ap first r.goes.left ∙ ap (λ token. Some token) e) in
    free_name a.scope.around name (ap (is_name_among openings) (sym w.1) ∙ o w.0) (ap (number_among a.scope.around) (sym w.1) ∙ n w.0))

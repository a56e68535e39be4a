-- Reading of forms with two or more expressions.
use Rattle.std.specs.Prelude.{◌≡◌, ◌⊎◌, ◌<◌, ◌≤◌, ℕ, zero, suc, pos, Bool, true, false, not, ◌&&◌, ◌||◌, IsTrue, List, [], ◌∷◌, ◌++◌, length, codes, Option, Some, None, refl, if◌then◌else◌}
use Rattle.std.specs.List.{slice_range}
use Rattle.std.proofs.Common.{ap, sym, ◌∙◌, ◌-◌, arith, append_assoc, inl, inr, take, drop, length-append}
use Rattle.std.proofs.lemmas.Bool.{false≢true, leb-true, le-leb, lt-ltb}
use Rattle.std.proofs.lemmas.List.{append-nil, take-append-le, drop_at, take_all}
use Rattle.a2_promise.specs.declared.expr.Operation.{Operation}
use Rattle.a2_promise.specs.declared.expr.Operation.TheVariants as operation
use Rattle.a2_promise.specs.declared.words.Infix.{Infix}
use Rattle.a2_promise.specs.declared.words.Infix.TheVariants.{Iff, Or, And, Compare, Apply}
use Rattle.a2_promise.specs.declared.words.Kind.{Kind}
use Rattle.a2_promise.specs.declared.words.Kind.TheVariants as kinds
use Rattle.a2_promise.specs.declared.words.Relation.{Relation}
use Rattle.a2_promise.specs.declared.words.Relation.TheVariants as relations
use Rattle.a2_promise.specs.declared.parts.Part.{Part}
use Rattle.a2_promise.specs.declared.parts.Part.TheVariants as part
use Rattle.a2_promise.specs.declared.parsing.Piece.{Piece}
use Rattle.a2_promise.specs.declared.reader.Span.{Span}
use Rattle.a2_promise.specs.Phrases.{Phrase}
use Rattle.a2_promise.specs.Tokens.{word}
use Rattle.a2_promise.specs.Written.{Written, PhraseWithLast, joined, bit, provided, one_of, spelled, said, meant, infix_token, comparison, compared, both}
use Rattle.a2_promise.specs.Grammar.{fits, joins, kind, infix_kind, infix_rank, is_comparison, is_number, is_fact, may_be_number, may_be_fact, tightest, takes_else}
use Rattle.a2_promise.specs.Reading.{State, Takes, Puts, Reads, ReadsKind, ReadsOne, ReadsJoined, EndsCompared, IsPiece, IsLast, IsMade, Stops, first, made, comparing, joining, parts_before, parts_known_after}
use Rattle.a2_promise.proofs.Goings.{also, took, put, last, ◌>>◌, as_made, stops_both, fits_at, reads_it, one_read, one_by_rank}
use Rattle.a2_promise.proofs.Making.{none_made, made_both}
use Rattle.a2_promise.proofs.Ranks.{takes_rank}

-- an expression, a token, and another expression

pub bit_read : {a m n o q b : State} → Takes (word (codes "bit")) a m → ReadsOne tightest is_number m n → Takes (word (codes "of")) n o
    → ReadsOne tightest is_number o q → Puts (part.Pair operation.Bit ∷ []) q b → ReadsKind kinds.Number a b
unfolding spelled meant fits made
bit_read t r u s p =
    one_read (bit r.e s.e) (took t >> r.reads.steps >> took u >> last s.reads.steps p) t.scope
    (also (also (also (also (also (one_by_rank r.e r.rank) r.is) (one_by_rank s.e s.rank)) s.is) r.reads.fits)
    (fits_at s.reads (u.scope ∙ r.reads.steps.scope)))
    (rw p.left s.reads.stops) (rw p.left s.reads.no_else) refl refl

pub provided_read : {a m n o q b : State} → Takes (word (codes "if")) a m → ReadsOne 1 is_fact m n → Takes (word (codes "then")) n o → ReadsOne 1 is_fact o q
    → (first q.left ≡ Some (word (codes "else")) → ⊥) → Puts (part.Number (pos 1) ∷ part.Choice ∷ []) q b → ReadsKind kinds.Fact a b
unfolding spelled meant fits made
provided_read t r u s other p =
    one_read (provided r.e s.e) (took t >> r.reads.steps >> took u >> last s.reads.steps p) t.scope
    (also (also (also r.is s.is) r.reads.fits) (fits_at s.reads (u.scope ∙ r.reads.steps.scope)))
    (rw p.left s.stops) (rw p.left (λ h f. other f)) refl refl

not_true : (b : Bool) → (IsTrue b → ⊥) → IsTrue (not b)
not_true true h = absurd (h refl)
not_true false h = refl

pub one_of_read : {a m n o q s u b : State} {f g : Written} {k : Kind} → Takes (word (codes "if")) a m → ReadsOne 1 is_fact m n
    → Takes (word (codes "then")) n o → Reads f o q → Takes (word (codes "else")) q s → Reads g s u → Stops 1 u.left → Puts (part.Choice ∷ []) u b
    → IsTrue ((is_number f && is_number g) || (is_fact f && is_fact g))
    → (if may_be_fact (kind f) && may_be_fact (kind g) then kinds.Fact else kinds.Number) ≡ k → ReadsKind k a b
unfolding spelled meant fits made
one_of_read {f = f} {g} t r v x w y stop p kinds_are is =
    let there = v.scope ∙ r.reads.steps.scope in
    one_read (one_of r.e f g) (took t >> r.reads.steps >> took v >> x.steps >> took w >> last y.steps p) t.scope
    (also (also (also (also (also r.is kinds_are) (not_true (takes_else f) (λ h. x.no_else h (ap first w.left)))) r.reads.fits)
    (fits_at x there)) (fits_at y (w.scope ∙ x.steps.scope ∙ there)))
    (rw p.left stop) (rw p.left y.no_else) refl is

-- Operators

pub nothing_put : {a : State} → Puts [] a a
nothing_put {a} = record { left = refl; parts = sym (append-nil a.parts); scope = refl }

pub puts_both : {put more : List Part} {a b c : State} → Puts put a b → Puts more b c → Puts (put ++ more) a c
puts_both {put} {more} {a} p q = record {
  left = q.left ∙ p.left;
  parts = q.parts ∙ ap (λ before. before ++ more) p.parts ∙ append_assoc a.parts put more;
  scope = q.scope ∙ p.scope;
}

-- the left part was read, the operator was read, parts were appended, and the right part was read
joined_read : (join : Infix) {fore following : List Part} {e : Written} {a m n o q b : State} → Reads e a m → Takes (infix_token join) m n → Puts fore n o
    → (s : ReadsOne (suc (infix_rank join)) (λ f. joins join e f) o q) → Puts following q b → infix_rank join < tightest
    → ((phrases : List Phrase) → made following (said s.e ∷ made fore (said e ∷ phrases)) ≡ said (joined join e s.e) ∷ phrases)
    → Reads (joined join e s.e) a b
unfolding spelled fits
joined_read join {e = e} r t h s p below makes =
    let under = r.stops join (ap first t.left) below in
    reads_it (joined join e s.e) (as_made (r.steps >> took t >> put h >> last s.reads.steps p) makes) refl
    (also (also (also (also (also (le-leb _ _ (omega (arith, under, takes_rank e))) (lt-ltb _ _ under))
    (lt-ltb _ _ (omega (arith, leb-true _ _ s.rank)))) s.is) r.fits) (fits_at s.reads (h.scope ∙ t.scope ∙ r.steps.scope)))
    (rw p.left (stops_both _ s.stops s.reads.stops)) (rw p.left s.reads.no_else)

-- the right part, with the test that makes it fit the left part
abbrev with_left : {limit : ℕ} {test other : Written → Bool} {a b : State} (s : ReadsOne limit test a b) → IsTrue (other s.e) → ReadsOne limit other a b
with_left s is = record { e = s.e; reads = s.reads; rank = s.rank; is = is; stops = s.stops }

abbrev pub JoinedBy : Infix → (Written → Bool) → List Part → List Part → Type 0
JoinedBy join test fore following =
    (piece : Piece) (e : Written) (a m n o q b : State) → Reads e a m → IsTrue (test e) → Takes (infix_token join) m n → Puts fore n o
    → ReadsOne (suc (infix_rank join)) test o q → Puts following q b → piece.kind ≡ infix_kind join → piece.last ≡ None → ReadsJoined join e piece a b

plain_joined : {join : Infix} {e f : Written} {piece : Piece} {a b : State} → Reads (joined join e f) a b → piece.kind ≡ infix_kind join
    → piece.last ≡ None → (meant (joined join e f)).last ≡ None → ReadsJoined join e piece a b
plain_joined {f = f} r k none no_last = record { f = f; reads = r; piece_is = record { kind = sym k; last = rw none no_last } }

pub apply_read : (op : Operation) → infix_rank (Apply op) < tightest → JoinedBy (Apply op) is_number [] (part.Pair op ∷ [])
unfolding meant made
apply_read op below piece e a m n o q b r t u h s p k none = plain_joined (joined_read (Apply op) r u h (with_left s (also t s.is)) p below (λ phrases. refl)) k none refl

or_read : JoinedBy Or is_fact (part.Number (pos 1) ∷ []) (part.Choice ∷ [])
unfolding meant made
or_read piece e a m n o q b r t u h s p k none = plain_joined (joined_read Or r u h (with_left s (also t s.is)) p (omega arith) (λ phrases. refl)) k none refl

and_read : JoinedBy And is_fact [] joining
unfolding meant made
and_read piece e a m n o q b r t u h s p k none = plain_joined (joined_read And r u h (with_left s (also t s.is)) p (omega arith) (λ phrases. refl)) k none refl

iff_read : JoinedBy Iff is_fact [] (part.Pair operation.Equal ∷ [])
unfolding meant made
iff_read piece e a m n o q b r t u h s p k none = plain_joined (joined_read Iff r u h (with_left s (also t s.is)) p (omega arith) (λ phrases. refl)) k none refl

-- an operator between two facts
abbrev pub IsLogic : Infix → Type 0
IsLogic join = (join ≡ Or) ⊎ ((join ≡ And) ⊎ (join ≡ Iff))

pub logic_read : (join : Infix) → IsLogic join → JoinedBy join is_fact (parts_before join) (parts_known_after join)
logic_read join is = elim is [
  | inl e ↦ rw e or_read
  | inr more ↦ elim more [ inl e ↦ rw e and_read | inr e ↦ rw e iff_read ]
]

pub logic_kind : (join : Infix) → IsLogic join → kinds.Fact ≡ infix_kind join
logic_kind join is = elim is [
  | inl e ↦ ap infix_kind (sym e)
  | inr more ↦ elim more [ inl e ↦ ap infix_kind (sym e) | inr e ↦ ap infix_kind (sym e) ]
]

-- Comparisons

compares : (relation : Relation) (e f : Phrase) (phrases : List Phrase) → made (comparing relation) (f ∷ e ∷ phrases) ≡ compared relation e f ∷ phrases
unfolding made
compares relations.Equal e f phrases = refl
compares _ e f phrases = refl

pub joins_both : (e f : Phrase) (phrases : List Phrase) → made joining (f ∷ e ∷ phrases) ≡ both e f ∷ phrases
unfolding made
joins_both e f phrases = refl

compared_by : (relation : Relation) (m : PhraseWithLast) (f : Phrase) (was : Option Phrase) → m.last ≡ was
    → elim was [ None ↦ compared relation m.phrase f | Some one ↦ both m.phrase (compared relation one f) ] ≡ (comparison relation m f).phrase
compared_by relation m f was e = rw e refl

pub slice_kept : {X : Type 0} (xs ys : List X) (i j : ℕ) → j ≤ length xs → slice_range (xs ++ ys) i j ≡ slice_range xs i j
slice_kept xs ys zero j l = take-append-le (j - 0) xs ys (omega (arith, l))
slice_kept [] ys (suc i) j l =
    let n : j - suc i ≡ 0 = omega (arith, l) in ap (λ n. take n (drop (suc i) ys)) n ∙ sym (ap (λ n. take n []) n)
slice_kept (x ∷ xs) ys (suc i) j l =
    let n : j - suc i ≡ j - 1 - i = omega arith in
    ap (λ n. take n (drop i (xs ++ ys))) n ∙ slice_kept xs ys i (j - 1) (omega (arith, l)) ∙ ap (λ n. take n (drop i xs)) (sym n)

-- what a span of parts makes does not change if more parts follow
pub made_kept : (span : Span) (e : Phrase) (parts more all : List Part) → all ≡ parts ++ more → IsMade span e parts → IsMade span e all
made_kept span e parts more all h m =
    let same = ap (λ parts. slice_range parts span.begun span.ended) h ∙ slice_kept parts more span.begun span.ended m.0 in
    (omega (arith, m.0, ap length h, length-append parts more), λ phrases. ap (λ parts. made parts phrases) same ∙ m.1 phrases)

-- a span that was appended to others
pub slice_put : {X : Type 0} (before put all : List X) (begun ended : ℕ) → all ≡ before ++ put → begun ≡ length before → ended ≡ length all
    → slice_range all begun ended ≡ put
slice_put before put all begun ended h i j =
    let l = length-append before put in
    let k = ap length h in
    ap (λ all. slice_range all begun ended) h ∙ ap (λ n. take (ended - begun) (drop n (before ++ put))) i
    ∙ ap (take (ended - begun)) (drop_at before put (length before) refl) ∙ take_all (ended - begun) put (omega (arith, i, j, k, l))

-- the last number of a comparison, which has these parts
record ReadsLast (span : Span) (before after : State) : Type 0 where
  pub one : ReadsOne 6 is_number before after
  pub is_made : IsMade span (said one.e) after.parts

last_read : {n o : State} (span : Span) → span.begun ≡ length n.parts → span.ended ≡ length o.parts → ReadsOne 6 is_number n o → ReadsLast span n o
last_read {n} {o} span i j r =
    let same = slice_put n.parts r.reads.steps.parts o.parts span.begun span.ended r.reads.steps.puts i j in
    record { one = r; is_made = (omega (arith, j), λ phrases. ap (λ parts. made parts phrases) same ∙ r.reads.steps.makes phrases) }

or_left : {a c : Bool} (b : Bool) → IsTrue a → IsTrue c → IsTrue ((a || b) && c)
or_left {a = true} b p q = q
or_left {a = false} b p q = absurd (false≢true p)

or_right : (a : Bool) {b c : Bool} → IsTrue b → IsTrue c → IsTrue ((a || b) && c)
or_right true p q = q
or_right false p q = also p q

-- a comparison, given its left side and the phrase of the last parts before the right number
compared_so : {relation : Relation} {piece : Piece} {e : Written} {span : Span} {a b : State} (parts following : List Part) {f : Written}
    → Reads (joined (Compare relation) e f) a b → IsMade span (said f) parts → b.parts ≡ parts ++ following → piece.kind ≡ kinds.Fact
    → piece.last ≡ Some span → ReadsJoined (Compare relation) e piece a b
unfolding meant
compared_so {span = span} {b = b} parts following {f} r m all k some = record {
  f = f;
  reads = r;
  piece_is = record { kind = sym k; last = rw some (refl, (said f, refl, made_kept span (said f) parts following b.parts all m)) };
}

comparison_read : (relation : Relation) {left piece : Piece} {e : Written} {span : Span} {a m n o b : State} → Reads e a m → IsPiece left e m
    → left.last ≡ None → IsTrue (may_be_number left.kind) → Takes (infix_token (Compare relation)) m n → ReadsLast span n o
    → Puts (comparing relation) o b → piece.kind ≡ kinds.Fact → piece.last ≡ Some span → ReadsJoined (Compare relation) e piece a b
unfolding meant
comparison_read relation {e = e} {m = m} {o = o} r l none t u s p k some =
    let f = s.one.e in
    let plain : IsLast m.parts None e = rw none at l.last in
    compared_so o.parts (comparing relation)
    (joined_read (Compare relation) r u nothing_put (with_left s.one (or_right (is_comparison e) (rw l.kind t) s.one.is)) p (omega arith)
    (λ phrases. ap (λ stack. made (comparing relation) (said f ∷ stack)) (none_made (said e ∷ phrases)) ∙ compares relation (said e) (said f) phrases
    ∙ ap (λ phrase. phrase ∷ phrases) (compared_by relation (meant e) (said f) None plain)))
    s.is_made p.parts k some

chain_read : (relation : Relation) {left piece : Piece} {e : Written} {chained span : Span} {a m n o q b : State} → Reads e a m → IsPiece left e m
    → left.last ≡ Some chained → Takes (infix_token (Compare relation)) m n
    → (chained.ended ≤ length n.parts → Puts (slice_range n.parts chained.begun chained.ended) n o) → ReadsLast span o q
    → Puts (comparing relation ++ joining) q b → piece.kind ≡ kinds.Fact → piece.last ≡ Some span → ReadsJoined (Compare relation) e piece a b
unfolding meant
chain_read relation {e = e} {chained} {m = m} {n} {q = q} r l some u h t following k some' =
    let f = t.one.e in
    let was : IsLast m.parts (Some chained) e = rw some at l.last in
    let one = was.1.0 in
    let again = made_kept chained one m.parts [] n.parts (u.parts ∙ sym (append-nil m.parts)) was.1.2 in
    compared_so q.parts (comparing relation ++ joining)
    (joined_read (Compare relation) r u (h again.0) (with_left t.one (or_left (is_number e) was.0 t.one.is)) following (omega arith)
    (λ phrases. ap (λ stack. made (comparing relation ++ joining) (said f ∷ stack)) (again.1 (said e ∷ phrases))
    ∙ made_both (comparing relation) joining (said f ∷ one ∷ said e ∷ phrases)
    ∙ ap (made joining) (compares relation one (said f) (said e ∷ phrases)) ∙ joins_both (said e) (compared relation one (said f)) phrases
    ∙ ap (λ phrase. phrase ∷ phrases) (compared_by relation (meant e) (said f) (Some one) was.1.1)))
    t.is_made following.parts k some'

-- the same, for a number or a comparison as the left side
pub compared_read : (relation : Relation) {left piece : Piece} {e : Written} {begun : ℕ} {a m n o q b : State} → Reads e a m → IsPiece left e m
    → Takes (infix_token (Compare relation)) m n → (left.last ≡ None → IsTrue (may_be_number left.kind) × (o ≡ n))
    → ((last : Span) → left.last ≡ Some last → last.ended ≤ length n.parts → Puts (slice_range n.parts last.begun last.ended) n o)
    → begun ≡ length o.parts → ReadsOne 6 is_number o q → EndsCompared left.last relation begun piece q b
    → ReadsJoined (Compare relation) e piece a b
compared_read relation {left} {piece} {e} {begun} {a} {m} {n} {o} {q} {b} r l t first more i s ends = by left.last refl
  where
    span : Span
    span = record { begun = begun; ended = length q.parts }

    by : (was : Option Span) → left.last ≡ was → ReadsJoined (Compare relation) e piece a b
    by None none =
        let it = first none in
        let puts : Puts (comparing relation ++ []) q b = rw none at ends.puts in
        comparison_read relation r l none it.0 (rw (← it.1) at t) (last_read span i refl s) (rw append-nil at puts) ends.kind ends.last_is
    by (Some last) some =
        chain_read relation r l some t (more last some) (last_read span i refl s) (rw some at ends.puts) ends.kind ends.last_is

-- How steps of a reader are combined.
use Rattle.std.specs.Prelude.{◌≡◌, ℕ, min, nat_le, Bool, true, false, ◌&&◌, IsTrue, List, [], ◌∷◌, ◌++◌, None, refl}
use Rattle.std.proofs.Common.{ap, sym, subst, ◌∙◌, arith, append_assoc}
use Rattle.std.proofs.lemmas.List.{append-nil}
use Rattle.std.proofs.lemmas.Bool.{false≢true, leb-true}
use Rattle.std.proofs.lemmas.Bool.Decides.{Decides-eqb}
use Rattle.a2_promise.specs.declared.words.Infix.TheVariants.{Iff, Or, And, Compare, Apply}
use Rattle.a2_promise.specs.declared.parts.Part.{Part}
use Rattle.a2_promise.specs.declared.words.Kind.{Kind}
use Rattle.a2_promise.specs.declared.parsing.Piece.{Piece}
use Rattle.a2_promise.specs.Phrases.{Phrase}
use Rattle.a2_promise.specs.Tokens.{Token}
use Rattle.a2_promise.specs.Written.{Written, joined, spelled, said, meant}
use Rattle.a2_promise.specs.Grammar.{Scope, fits, infix_rank, is_one, kind, rank, tightest, takes_from, takes_else}
use Rattle.a2_promise.specs.Reading.{State, Takes, Puts, Goes, Steps, Reads, ReadsKind, ReadsPiece, Stops, NoElse, made}
use Rattle.a2_promise.proofs.Making.{none_made, made_both}
use Rattle.a2_promise.proofs.Ranks.{infix_within}

pub also : {a b : Bool} → IsTrue a → IsTrue b → IsTrue (a && b)
also {a = true} p q = q
also {a = false} p q = p

-- Steps

pub went : {taken : List Token} {put : List Part} {a b : State} → Goes taken put a b → Steps taken (made put) a b
went {put = put} g = record { left = g.left; parts = put; puts = g.parts; makes = λ phrases. refl; scope = g.scope }

pub took : {token : Token} {a b : State} → Takes token a b → Steps (token ∷ []) (λ phrases. phrases) a b
took {a = a} t = record {
  left = t.left;
  parts = [];
  puts = t.parts ∙ sym (append-nil a.parts);
  makes = none_made;
  scope = t.scope;
}

pub put : {parts : List Part} {a b : State} → Puts parts a b → Steps [] (made parts) a b
put {parts} p = record { left = sym p.left; parts = parts; puts = p.parts; makes = λ phrases. refl; scope = p.scope }

-- one after another
infixr 20 ◌>>◌
pub ◌>>◌ : {taken more : List Token} {f g : List Phrase → List Phrase} {a b c : State} → Steps taken f a b → Steps more g b c
    → Steps (taken ++ more) (λ phrases. g (f phrases)) a c
◌>>◌ {taken} {more} {f} {g} {a} {b} {c} s t = record {
  left = s.left ∙ ap (λ left. taken ++ left) t.left ∙ sym (append_assoc taken more c.left);
  parts = s.parts ++ t.parts;
  puts = t.puts ∙ ap (λ before. before ++ t.parts) s.puts ∙ append_assoc a.parts s.parts t.parts;
  makes = λ phrases. made_both s.parts t.parts phrases ∙ ap (made t.parts) (s.makes phrases) ∙ t.makes (f phrases);
  scope = t.scope ∙ s.scope;
}

-- the last step, after which parts are appended
pub last : {taken : List Token} {f : List Phrase → List Phrase} {more : List Part} {a b c : State} → Steps taken f a b → Puts more b c
    → Steps taken (λ phrases. made more (f phrases)) a c
last {taken} {f} {more} {a} {b} {c} s p =
    subst (λ (tokens : List Token). Steps tokens (λ phrases. made more (f phrases)) a c) (append-nil taken) (s >> put p)

pub as_made : {taken : List Token} {f g : List Phrase → List Phrase} {a b : State} → Steps taken f a b → ((phrases : List Phrase) → f phrases ≡ g phrases)
    → Steps taken g a b
as_made s h = record { left = s.left; parts = s.parts; puts = s.puts; makes = λ phrases. s.makes phrases ∙ h phrases; scope = s.scope }

-- What may follow

pub stops_both : {limit other : ℕ} (left : List Token) → Stops limit left → Stops other left → Stops (min limit other) left
stops_both left s t = λ join f l. let x = s join f l in let y = t join f l in omega (arith, x, y)

-- What was read

pub fits_at : {e : Written} {scope : Scope} {a b : State} → Reads e a b → a.scope ≡ scope → IsTrue (fits scope e)
fits_at {e} r h = subst (λ (scope : Scope). IsTrue (fits scope e)) h r.fits

-- an expression that is allowed in the surroundings of its first part
pub reads_it : (e : Written) {scope : Scope} {a b : State} → Steps (spelled e) (λ phrases. said e ∷ phrases) a b → scope ≡ a.scope → IsTrue (fits scope e)
    → Stops (takes_from e) b.left → NoElse (takes_else e) b.left → Reads e a b
reads_it e s h f stops no_else = record {
  steps = s;
  fits = subst (λ (scope : Scope). IsTrue (fits scope e)) h f;
  stops = stops;
  no_else = no_else;
}

-- the same for an expression that is not two joined by an operator
pub one_read : (e : Written) {scope : Scope} {k : Kind} {a b : State} → Steps (spelled e) (λ phrases. said e ∷ phrases) a b → scope ≡ a.scope
    → IsTrue (fits scope e) → Stops (takes_from e) b.left → NoElse (takes_else e) b.left → IsTrue (nat_le tightest (rank e)) → kind e ≡ k
    → ReadsKind k a b
one_read e s h f stops no_else r k = record { e = e; reads = reads_it e s h f stops no_else; rank = r; kind = k }

-- the same for one to which nothing that follows can belong
pub closed_read : (e : Written) {scope : Scope} {k : Kind} {a b : State} → Steps (spelled e) (λ phrases. said e ∷ phrases) a b → scope ≡ a.scope
    → IsTrue (fits scope e) → takes_from e ≡ tightest → takes_else e ≡ false → IsTrue (nat_le tightest (rank e)) → kind e ≡ k → ReadsKind k a b
closed_read e s h f limit takes r k = one_read e s h f (λ join g below. rw limit below) (λ yes g. false≢true (sym takes ∙ yes)) r k

-- Ranks

pub one_by_rank : (e : Written) → IsTrue (nat_le tightest (rank e)) → IsTrue (is_one e)
one_by_rank (joined join e f) h =
    let most = infix_within join in (Decides-eqb (infix_rank join) 10).1 (omega (arith, most.1, leb-true 10 (infix_rank join) h))
one_by_rank _ h = refl

-- an expression that is not two joined by an operator is not a comparison
no_last : (e : Written) → IsTrue (nat_le tightest (rank e)) → (meant e).last ≡ None
unfolding meant
no_last (joined (Compare relation) e f) h = absurd (omega (arith, leb-true 10 5 h))
no_last (joined Iff e f) h = refl
no_last (joined Or e f) h = refl
no_last (joined And e f) h = refl
no_last (joined (Apply op) e f) h = refl
no_last _ h = refl

pub kind_piece : {k : Kind} {piece : Piece} {a b : State} → ReadsKind k a b → piece.kind ≡ k → piece.last ≡ None → ReadsPiece tightest piece a b
kind_piece r h n = record {
  e = r.e;
  reads = r.reads;
  rank = r.rank;
  is = record { kind = r.kind ∙ sym h; last = rw n (no_last r.e r.rank) };
  stops = λ join f below. below;
}

-- What a clause that was read says.
use Rattle.std.specs.Prelude.{◌≡◌, IsTrue, List, [], ◌∷◌, ◌++◌, None, refl}
use Rattle.std.proofs.Common.{ap, sym, ◌∙◌}
use Rattle.std.proofs.lemmas.List.{append-nil, map-append}
use Rattle.a2_promise.specs.declared.parsing.Piece.{Piece}
use Rattle.a2_promise.specs.declared.promises.Clause.{Clause}
use Rattle.a2_promise.specs.Phrases.{Phrase, phrase_of}
use Rattle.a2_promise.specs.Tokens.{Token}
use Rattle.a2_promise.specs.Written.{spelled, said}
use Rattle.a2_promise.specs.Grammar.{may_be_fact}
use Rattle.a2_promise.specs.Reading.{State, ReadsPiece, AddsFact, AddsWhole, said_by, first, made}
use Rattle.a2_promise.proofs.Goings.{also}

pub nothing_left : (left : List Token) → None ≡ first left → left ≡ []
nothing_left [] e = refl
nothing_left (token ∷ left) e = absurd (let no : ⊥ = cc in no)

top_is : (e f : Phrase) (more : List Phrase) → e ∷ [] ≡ f ∷ more → e ≡ f
top_is e f more h = cc

pub fact_added : {piece : Piece} {a b : State} {clauses others : List Clause} → ReadsPiece 1 piece a b → IsTrue (may_be_fact piece.kind) → a.parts ≡ []
    → AddsWhole b clauses others → AddsFact a clauses others
fact_added {a = a} {b} {clauses} r t none w =
    let e = r.e in
    let s = r.reads.steps in
    let same : b.parts ≡ s.parts = s.puts ∙ ap (λ before. before ++ s.parts) none in
    let is : said e ≡ phrase_of w.clause.expr =
    top_is (said e) (phrase_of w.clause.expr) w.more (sym (s.makes []) ∙ ap (λ parts. made parts []) (sym same) ∙ w.made_of) in
    record {
      e = e;
      is_spelled = s.left ∙ ap (λ left. spelled e ++ left) w.ended ∙ append-nil (spelled e);
      fit = also (rw r.is.kind t) r.reads.fits;
      adds = ap (λ all. said_by all) w.adds ∙ map-append (λ (clause : Clause). phrase_of clause.expr) clauses (w.clause ∷ [])
          ∙ ap (λ phrase. said_by clauses ++ phrase ∷ []) (sym is);
    }

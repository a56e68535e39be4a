use Rattle.std.proofs.Common.{◌≡◌, ◌<◌, List, ℕ, Bor, sym, ap, ap₂, subst, ◌∙◌, arith, rules, length, get_or, refl}
use Rattle.std.proofs.lemmas.List.{length-map, get_or-map, take_all}
use Rattle.std.proofs.lemmas.List.Elements.{All-map, All-more}
use Rattle.std.specs.Cmp.Lexicographic.{same_text, other_text}
use Rattle.std.specs.List.{All, Contains}
use denote.Enum.Bare.{same_true, same_false}
use Rattle.a2_promise.specs.contracts.reading.Class.{the_type}
use Rattle.a2_promise.specs.declared.reading.Class.{Class}
use Rattle.a2_promise.specs.Reading.{listed}
use Rattle.a2_promise.proofs.words.meaning.Goals as goal
use Rattle.a2_promise.proofs.words.meaning.Goals.{else-eq-via-then-eq+else-eq-2, else-eq-via-else-eq}

listed_at : {T : Type 0} (rows : List (Class × Bor (List ℕ) × T)) (k : ℕ) (row : Class × Bor (List ℕ) × T) (class : Class) (text : List ℕ) → k < length rows
    → row ≡ get_or rows k row → row.0 ≡ class → row.1.now ≡ text → Contains (listed rows) (class, text, row.2)
listed_at {T} rows k row class text l is e f =
    let plain : Class × Bor (List ℕ) × T → Class × List ℕ × T = λ row. (row.0, row.1.now, row.2) in (
      k,
      omega (arith, l, length-map rows plain),
      get_or-map plain rows k row (class, text, row.2) l ∙ ap plain (sym is) ∙ ap₂ (λ class text. (class, text, row.2)) e f,
    )

abbrev IsOther : {T : Type 0} → Class → List ℕ → Class × Bor (List ℕ) × T → Type 0
IsOther class text row = row.0 ≡ class → row.1.now ≡ text → ⊥

not_listed : {T : Type 0} (rows : List (Class × Bor (List ℕ) × T)) (class : Class) (text : List ℕ) (it : T) → All (IsOther class text) rows
    → Contains (listed rows) (class, text, it) → ⊥
not_listed {T} rows class text it all c =
    let Q : Class × List ℕ × T → Type 0 = λ row. row.0 ≡ class → row.1 ≡ text → ⊥ in
    subst Q c.2 (All-map Q (λ row. (row.0, row.1.now, row.2)) rows all c.0 (class, text, it) c.1) refl refl

pub returns-then-eq-2-clause-found : goal.returns-then-eq-2-clause-found
returns-then-eq-2-clause-found g c =
    listed_at c.args.rows.now c.loop-class.class-index c.loop-class-item.result c.args.token.class c.args.token.text.now c.loop-class-test.true
    c.loop-class-item.is (same_true the_type (search rules) _ _ (sym c.eq.ensures ∙ c.if-eq.true))
    (same_text _ _ (sym c.if-eq-2.true ∙ c.eq-then-eq.ensures))

pub loop-class-preserved : goal.loop-class-preserved
loop-class-preserved g c =
    let row = c.loop-class-item.result in
    let here : IsOther c.args.token.class c.args.token.text.now row = λ e f. elim c.else-eq.branch [
      | else-eq-via-then-eq+else-eq-2 w ↦ other_text _ _ (sym w.if-eq-2.false ∙ w.eq-then-eq.ensures) f
      | else-eq-via-else-eq w ↦ same_false the_type _ _ (sym c.eq.ensures ∙ w.if-eq.false) e
    ] in
    All-more (IsOther c.args.token.class c.args.token.text.now) c.args.rows.now c.loop-class.class-index row c.loop-class-test.true
    c.loop-class.invariant (subst (IsOther c.args.token.class c.args.token.text.now) c.loop-class-item.is here)

pub returns-clause-none : goal.returns-clause-none
returns-clause-none g c = λ it.
    not_listed c.args.rows.now c.args.token.class c.args.token.text.now it
    (subst (All (IsOther c.args.token.class c.args.token.text.now)) (take_all c.loop-class.class-index c.args.rows.now c.loop-class-test.false)
    c.loop-class.invariant)

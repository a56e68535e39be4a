use Rattle.std.proofs.Common.{◌≡◌, ◌<◌, List, ℕ, Bor, sym, ap, subst, ◌∙◌, arith, length, get_or, refl}
use Rattle.std.proofs.lemmas.List.{length-map, get_or-map, take_all}
use Rattle.std.proofs.lemmas.List.Elements.{All-map, All-more}
use Rattle.std.specs.Cmp.Lexicographic.{same_text, other_text}
use Rattle.std.specs.List.{All, Contains}
use Rattle.a2_debugger.specs.declared.verbs.Verb.{Verb}
use Rattle.a2_debugger.specs.Words.{listed}
use Rattle.a2_debugger.proofs.verbs.named.Goals as goal

listed_at : (rows : List (Bor (List ℕ) × Verb)) (k : ℕ) (d : Bor (List ℕ) × Verb) (text : List ℕ) → k < length rows
    → (get_or rows k d).0.now ≡ text → Contains (listed rows) (text, (get_or rows k d).1)
listed_at rows k d text l is =
    let plain : Bor (List ℕ) × Verb → List ℕ × Verb = λ row. (row.0.now, row.1) in
    let v : Verb = (get_or rows k d).1 in (
      k,
      omega (arith, l, length-map rows plain),
      get_or-map plain rows k d (text, v) l ∙ ap (λ (text : List ℕ). (text, v)) is,
    )

abbrev IsOther : List ℕ → Bor (List ℕ) × Verb → Type 0
IsOther text row = row.0.now ≡ text → ⊥

not_listed : (rows : List (Bor (List ℕ) × Verb)) (text : List ℕ) (v : Verb) → All (IsOther text) rows → Contains (listed rows) (text, v) → ⊥
not_listed rows text v all c =
    let Q : List ℕ × Verb → Type 0 = λ row. row.0 ≡ text → ⊥ in
    subst Q c.2 (All-map Q (λ row. (row.0.now, row.1)) rows all c.0 (text, v) c.1) refl

pub returns-then-eq-clause-found : goal.returns-then-eq-clause-found
returns-then-eq-clause-found c =
    listed_at c.args.rows.now c.loop-word.word-index _ c.args.letters.now c.loop-word-test.true
    (same_text _ _ (sym c.if-eq.true ∙ c.eq.ensures))

pub loop-word-preserved : goal.loop-word-preserved
loop-word-preserved c =
    All-more (IsOther c.args.letters.now) c.args.rows.now c.loop-word.word-index _ c.loop-word-test.true c.loop-word.invariant
    (λ e. other_text _ _ (sym c.if-eq.false ∙ c.eq.ensures) e)

pub returns-clause-none : goal.returns-clause-none
returns-clause-none c = λ v.
    not_listed c.args.rows.now c.args.letters.now v
    (subst (All (IsOther c.args.letters.now)) (take_all c.loop-word.word-index c.args.rows.now c.loop-word-test.false) c.loop-word.invariant)

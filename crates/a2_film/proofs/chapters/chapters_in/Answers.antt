use Rattle.std.proofs.Common.{◌≡◌, ℕ, ◌+◌, ◌<◌, ◌==◌, Bool, true, false, if◌then◌else◌, Bor, List, [], ◌∷◌, ◌++◌, length, map}
use Rattle.std.proofs.Common.{get_or, take, sym, ap, ◌∙◌, arith, refl, subst}
use Rattle.std.proofs.lemmas.List.{length-map, get_or-map}
use Rattle.a2_film.specs.declared.chapters.Chapter.{Chapter}
use Rattle.a2_film.specs.Chapters.{is_silent, AreChapters}
use Rattle.a2_film.proofs.ChapterLaws.{chapters_silent, chapters_more, first_other}
use Rattle.a2_film.proofs.chapters.chapters_in.Goals as goal

abbrev now : List (Bor (List ℕ)) → List (List ℕ)
now = map (λ x. x.now)

abbrev no_text : Bor (List ℕ)
no_text = record { ref_ptr = (0, 0); now = [] }

within : (texts : List (Bor (List ℕ))) (i : ℕ) → i < length texts → i < length (now texts)
within texts i low = omega (arith, low, length-map texts (λ (x : Bor (List ℕ)). x.now))

line-at : (texts : List (Bor (List ℕ))) (i : ℕ) → i < length texts → get_or (now texts) i [] ≡ (get_or texts i no_text).now
line-at texts i low = get_or-map (λ (x : Bor (List ℕ)). x.now) texts i no_text [] low

-- a push that did not fail
went : (ok : Bool) (new longer same : List Chapter) → new ≡ (if ok then longer else same) → ok ≡ true → new ≡ longer
went ok new longer same is fine = is ∙ ap (λ (v : Bool). if v then longer else same) fine

pub loop-line-preserved-then-is_empty : goal.loop-line-preserved-then-is_empty
loop-line-preserved-then-is_empty g c =
    let texts = c.args.lines.now in
    let i = c.loop-line.line-index in
    let low = c.loop-line-test.true in
    let silent : is_silent (get_or texts i no_text).now ≡ true = ap (λ (l : List ℕ). length l == 0) (sym c.after_blanks.ensures)
    ∙ sym c.if-is_empty.ensures in record {
      number = omega (arith, c.loop-line.invariant.number);
      are = chapters_silent (now texts) i (get_or texts i no_text).now c.loop-line.chapters.items (within texts i low)
          (line-at texts i low) silent
          c.loop-line.invariant.are;
    }

pub returns-in_default-clause-refused : goal.returns-in_default-clause-refused
returns-in_default-clause-refused g c =
    let texts = c.args.lines.now in
    let i = c.loop-line.line-index in
    let low = c.loop-line-test.true in
    let some : is_silent (get_or texts i no_text).now ≡ false = ap (λ (l : List ℕ). length l == 0) (sym c.after_blanks.ensures)
    ∙ sym c.if-is_empty.ensures in
    let number : c.loop-line.number + 1 ≡ i + 1 = omega (arith, c.loop-line.invariant.number) in
    λ other. (
      _,
      refl,
      first_other (now texts) i (c.loop-line.number + 1) (get_or texts i no_text).now c.loop-line.chapters.items
          (within texts i low) number
          (line-at texts i low) some c.in_default.ensures.none c.loop-line.invariant.are,
    )

pub loop-line-preserved : goal.loop-line-preserved
loop-line-preserved g c =
    let texts = c.args.lines.now in
    let i = c.loop-line.line-index in
    let low = c.loop-line-test.true in
    let some : is_silent (get_or texts i no_text).now ≡ false = ap (λ (l : List ℕ). length l == 0) (sym c.after_blanks.ensures)
    ∙ sym c.if-is_empty.ensures in
    let pushed : c.push.new.self.items ≡ c.loop-line.chapters.items ++ c.in-Some.chapter ∷ [] =
    went _ c.push.new.self.items (c.loop-line.chapters.items ++ c.in-Some.chapter ∷ []) c.loop-line.chapters.items
    c.push.ensures.items c.if-is_err.ensures.negation in record {
      number = omega (arith, c.loop-line.invariant.number);
      are = subst (λ (l : List Chapter). AreChapters (take (i + 1) (now texts)) l) (sym pushed)
          (chapters_more (now texts) i (get_or texts i no_text).now c.loop-line.chapters.items c.in-Some.chapter
          (within texts i low) (line-at texts i low) some
          c.in-Some.ensures.some c.loop-line.invariant.are);
    }

-- The first of all errors that are reported for a text.
use Rattle.std.proofs.Common.{◌≡◌, ℕ, zero, suc, ◌+◌, ◌-◌, ◌<◌, ◌≤◌, List, [], ◌∷◌, ◌++◌, length, map, take, drop, get_or, Some, sym, ap, ◌∙◌, subst, inl, inr, arith, ◌⊎◌, add-one}
use Rattle.std.specs.List.{All}
use Rattle.std.specs.List.Sorted.{IsStrictlyIncreasing}
use Rattle.std.proofs.lemmas.List.{take-append-drop, drop_more, length-take-le}
use Rattle.std.proofs.lemmas.List.Elements.{All-head, All-from_get_or, All-contains}
use Rattle.a2_text.specs.Lines.{lines}
use Rattle.a2_syntax.specs.Bare.{BareLine}
use Rattle.a2_syntax.specs.Grammar.{IsLine}
use Rattle.a2_syntax.specs.Sources.{AreLines, IsFirstBadLine, IsSource, IsSourceError}
use Rattle.a2_syntax.specs.declared.fault.Fault.{Fault}
use Rattle.a2_syntax.specs.declared.fault.Fault.TheVariants.{Syntax}
use Rattle.a2_asm.specs.Refusals.{IsLayoutError}
use Rattle.a2_check.specs.Unread.{IsUnread, AreUnread}
use Rattle.a2_check.specs.Refusals.{AreRefusals}

read-front : (texts : List (List ℕ)) (i : ℕ) → i ≤ length texts → ((k : ℕ) → k < i → (line : BareLine) × IsLine (get_or texts k []) line) → (read : List BareLine) × AreLines (take i texts) read
read-front texts zero h reads = ([], tt)
read-front [] (suc i) h reads = absurd (omega (arith, h))
read-front (t ∷ ts) (suc i) h reads =
    let first = reads 0 (omega arith) in
    let more = read-front ts i (omega (arith, h)) (λ k low. reads (suc k) (omega (arith, low))) in
    (first.0 ∷ more.0, (first.1, more.1))

above : (xs : List ℕ) (j : ℕ) → IsStrictlyIncreasing xs → j < length xs → get_or xs 0 0 ≤ get_or xs j 0
above xs zero rises low = omega arith
above xs (suc j) rises low =
    let before = above xs j rises (omega (arith, low)) in
    let step = rw add-one at (rises j (omega (arith, low))) in
    omega (arith, before, step)

-- the first number is the least
least : (n : ℕ) (ns : List ℕ) → IsStrictlyIncreasing (n ∷ ns) → All (λ m. n ≤ m) (n ∷ ns)
least n ns rises = All-from_get_or (λ m. n ≤ m) (n ∷ ns) 0 (λ i low. above (n ∷ ns) i rises low)

earlier-read : (texts : List (List ℕ)) (n : ℕ) (ns : List ℕ) → AreUnread texts (n ∷ ns) → (k : ℕ) → k < n - 1 → n ≤ length texts → (line : BareLine) × IsLine (get_or texts k []) line
earlier-read texts n ns all k low within = elim (all.others (k + 1) (omega arith, omega (arith, low, within))) [
  | inl among ↦ let up : n ≤ k + 1 = All-contains (λ m. n ≤ m) (n ∷ ns) (k + 1) (least n ns all.in_order) among in absurd (omega (arith, up, low))
  | inr is ↦
      let at : k + 1 - 1 ≡ k = omega arith in
      let P : ℕ → Type 0 = λ i. (line : BareLine) × IsLine (get_or texts i []) line in
      subst P at is
]

first-unread : (texts : List (List ℕ)) (n : ℕ) (ns : List ℕ) → AreUnread texts (n ∷ ns) → IsFirstBadLine texts n
first-unread texts n ns all =
    let u : IsUnread texts n = All-head (IsUnread texts) n ns all.unread in
    let i = n - 1 in
    let low : i < length texts = omega (arith, u.0.0, u.0.1) in (
      take i texts,
      get_or texts i [],
      drop (i + 1) texts,
      sym (take-append-drop i texts) ∙ ap (λ (x : List (List ℕ)). take i texts ++ x) (drop_more texts i [] low),
      omega (arith, length-take-le i texts (omega (arith, low)), u.0.0),
      read-front texts i (omega (arith, low)) (λ k h. earlier-read texts n ns all k h u.0.1),
      λ line is. u.1 (line, is),
    )

of-lines : (texts : List (List ℕ)) (fault : Fault) (more : List Fault) (numbers : List ℕ) → fault ∷ more ≡ map Syntax numbers → AreUnread texts numbers → (n : ℕ) × (fault ≡ Syntax n) × IsFirstBadLine texts n
of-lines texts fault more [] e all = let never : fault ∷ more ≡ [] = e in cc
of-lines texts fault more (n ∷ ns) e all = let whole : fault ∷ more ≡ Syntax n ∷ map Syntax ns = e in (n, cc, first-unread texts n ns all)

pub first-refusal : (text : List ℕ) (fault : Fault) (more : List Fault) → AreRefusals text (fault ∷ more) → IsSourceError text fault ⊎ ((source : List BareLine) × IsSource text source × IsLayoutError source fault)
first-refusal text fault more (inl (inl (other, e, large))) = let same : fault ≡ other = cc in inl (inl (large ∙ ap Some (sym same)))
first-refusal text fault more (inl (inr (fits, (numbers, e, some, all)))) =
    let f = of-lines (lines text) fault more numbers e all in
    inl (inr (fits, f.0, f.1, f.2))
first-refusal text fault more (inr (source, is, inl (e, program, is_program))) = let never : fault ∷ more ≡ [] = e in cc
first-refusal text fault more (inr (source, is, inr (other, layout, refused, is_layout, e))) =
    let same : fault ≡ other = cc in
    inr (source, is, subst (IsLayoutError source) (sym same) refused)

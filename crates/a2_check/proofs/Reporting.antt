-- If a text has a syntax error, one of its lines is not in the grammar.
use Rattle.std.proofs.Common.{◌≡◌, ℕ, suc, ◌+◌, ◌-◌, ◌<◌, List, [], ◌∷◌, ◌++◌, length, map, get_or, Bor, Some, None, sym, ap, ◌∙◌, subst, inl, inr, arith, length-append}
use Rattle.std.proofs.Math.Seq.{get_or-append_seam}
use Rattle.a2_text.specs.Lines.{lines}
use Rattle.a2_syntax.specs.Bare.{BareLine}
use Rattle.a2_syntax.specs.Grammar.{IsLine}
use Rattle.a2_syntax.specs.Limits.{size_error}
use Rattle.a2_syntax.specs.Sources.{IsFirstBadLine, IsSourceError}
use Rattle.a2_syntax.specs.declared.fault.Fault.{Fault}
use Rattle.a2_syntax.specs.declared.fault.Fault.TheVariants.{Syntax}
use Rattle.a2_asm.specs.Refusals.{IsLayoutError}
use Rattle.a2_asm.specs.Every.{AreLayoutErrors}
use Rattle.a2_asm.proofs.MadeLaws.{refused-no-program}
use Rattle.a2_check.specs.Unread.{AreUnread}
use Rattle.a2_check.specs.Refusals.{AreOfText}

-- the number of the first line outside the grammar is among the numbers
first-among : (texts : List (List ℕ)) (n : ℕ) (numbers : List ℕ) → IsFirstBadLine texts n → AreUnread texts numbers → 0 < length numbers
first-among texts n numbers (before, text, after, whole, number, read, fails) all =
    let count : length texts ≡ length before + suc (length after) = ap length whole ∙ length-append before (text ∷ after) in
    let index : n - 1 ≡ length before = omega (arith, number) in
    let here : get_or texts (n - 1) [] ≡ text = ap (λ (x : List (List ℕ)). get_or x (n - 1) []) whole ∙ ap (λ (i : ℕ). get_or (before ++ text ∷ after) i []) index ∙ get_or-append_seam before text after [] in
    let P : List ℕ → Type 0 = λ x. (line : BareLine) × IsLine x line in
    elim (all.others n (omega (arith, number), omega (arith, number, count))) [
      | inl (k, low, is) ↦ omega (arith, low)
      | inr is ↦ let r = subst P here is in absurd (fails r.0 r.1)
    ]

pub of-grammar : (text : List ℕ) (texts : List (Bor (List ℕ))) (faults : List Fault) → map (λ x. x.now) texts ≡ lines text → size_error text ≡ None → (fault : Fault) × IsSourceError text fault
    → (numbers : List ℕ) × (faults ≡ map Syntax numbers) × AreUnread (map (λ x. x.now) texts) numbers → AreOfText text faults
of-grammar text texts faults e fits (fault, inl large) found = let never : Some fault ≡ None = sym large ∙ fits in cc
of-grammar text texts faults e fits (fault, inr (_, n, is, first)) (numbers, shown, all) =
    let P : List (List ℕ) → Type 0 = λ x. AreUnread x numbers in
    let among = subst P e all in
    inr (fits, (numbers, shown, first-among (lines text) n numbers first among, among))

-- at least one error is reported for lines that do not parse
pub reported-some : (source : List BareLine) (fault : Fault) (reported : List Fault) → IsLayoutError source fault → AreLayoutErrors source reported → 0 < length reported
reported-some source fault reported refused (inl (none, program, is)) = absurd (refused-no-program source fault program refused is)
reported-some source fault reported refused (inr (first, layout, _, _, e)) = omega (arith, ap length e)

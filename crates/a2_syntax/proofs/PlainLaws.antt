-- Lists of numbers that are read without splitting the text into pieces.
use Rattle.std.proofs.Common.{◌≡◌, ℕ, ◌+◌, ◌<◌, ◌≤◌, true, List, ◌++◌, [], ◌∷◌, length, take, drop, refl, sym, ap, inr, inl, arith, Some, codes}
use Rattle.std.proofs.lemmas.List.{take-append-drop, length-drop}
use Rattle.std.proofs.lemmas.List.Folds.{length-prefix_len}
use Rattle.std.proofs.lemmas.List.Sums.{prefix_len-le-length}
use Rattle.a2_text.specs.Words.{after_blanks}
use Rattle.a2_syntax.specs.Names.{is_name_byte}
use Rattle.a2_syntax.specs.Numbers.{number}
use Rattle.a2_syntax.specs.Pieces.{is_over, Spells}
use Rattle.a2_syntax.specs.Grammar.{IsExpr}
use Rattle.a2_syntax.specs.Listed.{one_number}
use Rattle.a2_syntax.specs.Reading.{run_len, SpellsExprs}
use Rattle.a2_syntax.specs.declared.source.Expr.{Expr}
use Rattle.a2_syntax.proofs.Going.{Leads, leads-more}
use Rattle.a2_syntax.proofs.PieceLaws.{following-self, following-within, run-front, Spells-over}

-- a number at its position: its digits, and what follows them and any spaces
pub record Placed (rest digits following next : List ℕ) (n : ℕ) : Type 0 where
  pub digits_are : digits ≡ take (run_len (after_blanks rest)) (after_blanks rest)
  pub behind_is : following ≡ drop (run_len (after_blanks rest)) (after_blanks rest)
  pub is_number : number digits ≡ Some n
  pub next_is : next ≡ after_blanks following

pub place : (rest : List ℕ) {here digits following next : List ℕ} {n : ℕ} → here ≡ after_blanks rest → digits ≡ take (run_len here) here → following ≡ drop (run_len here) here
    → number digits ≡ Some n → next ≡ after_blanks following → Placed rest digits following next n
place rest at word after is next = record { digits_are = rw (← at) word; behind_is = rw (← at) after; is_number = is; next_is = next }

module _ {rest digits following next : List ℕ} {n : ℕ} (p : Placed rest digits following next n) where
  some-digits : 0 < run_len (after_blanks rest)
  some-digits = omega (arith, some digits p.is_number, ap length p.digits_are, length-prefix_len is_name_byte (after_blanks rest))
    where
      some : (digits : List ℕ) → number digits ≡ Some n → 0 < length digits
      some [] h = cc
      some (c ∷ cs) h = omega arith

  -- a number takes at least one byte
  pub placed-shorter : length next + 1 ≤ length rest
  placed-shorter = omega (arith, some-digits, ap length p.behind_is, length-drop (run_len (after_blanks rest)) (after_blanks rest), prefix_len-le-length is_name_byte (after_blanks rest), following-within rest _ refl, following-within following next p.next_is)

  spells-number : (ps : List (List ℕ)) → Spells following ps → Spells rest (digits ∷ ps)
  spells-number ps h = rw (p.digits_are) (after_blanks rest, following, following-self rest, rw p.behind_is (sym (take-append-drop (run_len (after_blanks rest)) (after_blanks rest))), inr (inr (inr (rw p.behind_is (run-front (after_blanks rest) some-digits)))), h)

  is-number : (A : Type 0) → IsExpr {A = A} (digits ∷ []) (one_number n)
  is-number A = (digits ∷ [], refl, (digits, [], refl, refl, p.is_number, refl))

  pub numbers-end : {A : Type 0} {text : List ℕ} {found : List (Expr A)} → Leads SpellsExprs text rest found → is_over next ≡ true → SpellsExprs text (found ++ one_number n ∷ [])
  numbers-end {A} l over = l.back (one_number n ∷ []) (digits ∷ [], spells-number [] (Spells-over following (rw (← p.next_is) over)), is-number A)

  pub numbers-more : {A : Type 0} {text more : List ℕ} {found : List (Expr A)} → Leads SpellsExprs text rest found → next ≡ 44 ∷ more → Leads SpellsExprs text more (found ++ one_number n ∷ [])
  numbers-more {A} {more = more} l comma = leads-more (one_number n) l before
    where
      before : (es : List (Expr A)) → SpellsExprs more es → SpellsExprs rest (one_number n ∷ es)
      before [] (ps, s, h) = absurd h
      before (f ∷ fs) (ps, s, h) = (
        digits ∷ codes "," ∷ ps,
        spells-number (codes "," ∷ ps) (next, more, rw p.next_is (following-self following), comma, inl (44, refl, refl), s),
        (digits ∷ [], ps, refl, is-number A, h),
      )

-- Each expression with a value is calculated.
use Rattle.std.proofs.Common.{◌≡◌, ℕ, suc, ◌≤◌, Bool, true, false, ◌&&◌, ltb, leb, List, [], ◌∷◌, ◌++◌, Some, refl, arith, ap, sym, ◌∙◌, append_assoc}
use Rattle.std.proofs.lemmas.List.{append-nil}
use Rattle.std.specs.Prelude.{ℤ}
use Rattle.a2_expand.specs.declared.value.Constant.{Constant}
use Rattle.a2_expand.specs.declared.value.Prefix.{Prefix}
use Rattle.a2_expand.specs.declared.value.Infix.{Infix}
use Rattle.a2_expand.specs.declared.value.Waiting.{Waiting}
use Rattle.a2_expand.specs.declared.value.Waiting.TheVariants as waits
use Rattle.a2_expand.specs.Expressions.{Expression, number, name, bracketed, after, joined, Piece, sign, prefix_piece, infix_piece, spelled, prefix_rank, infix_rank, rank, least_after, is_grouped, changed, combined, value_of_name, HasValue}
use Rattle.a2_expand.specs.Calculating.{State, start, settled, run, calculated}
use Rattle.a2_expand.proofs.Grouping.{need, infix_least, after_least, rank_least, infix_of_piece, infix_is_no_close, opening_of_piece, stays}

abbrev before : List ℤ → List Waiting → State
before values waiting = record { values = values; waiting = waiting; after = false }

abbrev behind : List ℤ → List Waiting → State
behind values waiting = record { values = values; waiting = waiting; after = true }

-- An expression is read to its end. What then waits gives the same as its value would.
record Ends {A : Type 0} (constants : List (Constant A)) (values : List ℤ) (waiting : List Waiting) (e : Expression) (z : ℤ) (more : List Piece) : Type 0 where
  left : List ℤ
  still : List Waiting
  is_read : run constants (before values waiting) (spelled e ++ more) ≡ run constants (behind left still) more
  settles : (r : ℕ) → r ≤ rank e → 1 ≤ r → settled r left still ≡ settled r (z ∷ values) waiting

named : {A : Type 0} (constants : List (Constant A)) (values : List ℤ) (waiting : List Waiting) (word : List ℕ) (z : ℤ) (more : List Piece)
    → value_of_name constants word ≡ Some z → run constants (before values waiting) (spelled (name word) ++ more) ≡ run constants (behind (z ∷ values) waiting) more
named constants values waiting word z more h = rw (h, run) refl

opened : {A : Type 0} (constants : List (Constant A)) (values : List ℤ) (waiting : List Waiting) (op : Prefix) (more : List Piece)
    → need waiting ≤ prefix_rank op → run constants (before values waiting) (prefix_piece op ∷ more) ≡ run constants (before values (waits.Prefix op ∷ waiting)) more
opened constants values waiting op more l = rw (opening_of_piece op waiting l, run) refl

closes : {A : Type 0} (constants : List (Constant A)) (left values : List ℤ) (still waiting : List Waiting) (more : List Piece)
    → settled 1 left still ≡ Some (values, waits.Open ∷ waiting) → run constants (behind left still) (sign 41 ∷ more) ≡ run constants (behind values waiting) more
closes constants left values still waiting more e = rw (e, run) refl

joins : {A : Type 0} (constants : List (Constant A)) (left values : List ℤ) (still waiting : List Waiting) (op : Infix) (more : List Piece)
    → settled (infix_rank op) left still ≡ Some (values, waiting) → run constants (behind left still) (infix_piece op ∷ more) ≡ run constants (before values (waits.Infix op ∷ waiting)) more
joins constants left values still waiting op more e = rw (infix_is_no_close op, infix_of_piece op, e, run) refl

applies_prefix : (op : Prefix) (a z : ℤ) (values : List ℤ) (waiting : List Waiting) (r : ℕ) → r ≤ prefix_rank op → changed op a ≡ Some z
    → settled r (a ∷ values) (waits.Prefix op ∷ waiting) ≡ settled r (z ∷ values) waiting
applies_prefix op a z values waiting r l e = let t : ltb (prefix_rank op) r ≡ false = grind arith in rw (t, e) refl

applies_infix : (op : Infix) (a b z : ℤ) (values : List ℤ) (waiting : List Waiting) (r : ℕ) → r ≤ infix_rank op → combined op a b ≡ Some z
    → settled r (b ∷ a ∷ values) (waits.Infix op ∷ waiting) ≡ settled r (z ∷ values) waiting
applies_infix op a b z values waiting r l e = let t : ltb (infix_rank op) r ≡ false = grind arith in rw (t, e) refl

two_hold : (a b : Bool) → (a && b) ≡ true → (a ≡ true) × (b ≡ true)
two_hold true true h = (refl, refl)
two_hold true false h = absurd cc
two_hold false b h = absurd cc

at_least : (a b : ℕ) → leb a b ≡ true → a ≤ b
at_least a b h = grind arith

above : (a b : ℕ) → ltb a b ≡ true → suc a ≤ b
above a b h = grind arith

reads : {A : Type 0} (constants : List (Constant A)) (e : Expression) (z : ℤ) (values : List ℤ) (waiting : List Waiting) (more : List Piece)
    → is_grouped e ≡ true → need waiting ≤ rank e → HasValue constants e z → Ends constants values waiting e z more
reads constants (number n) z values waiting more g l h = record {
  left = z ∷ values;
  still = waiting;
  is_read = ap (λ y. run constants (behind (y ∷ values) waiting) more) (sym h);
  settles = λ r m k. refl;
}
reads constants (name word) z values waiting more g l h = record {
  left = z ∷ values;
  still = waiting;
  is_read = named constants values waiting word z more h;
  settles = λ r m k. refl;
}
reads constants (bracketed e) z values waiting more g l h =
    let i = reads constants e z values (waits.Open ∷ waiting) (sign 41 ∷ more) g (rank_least e) h in
    record {
      left = z ∷ values;
      still = waiting;
      is_read = ap (λ ps. run constants (before values (waits.Open ∷ waiting)) ps) (append_assoc (spelled e) (sign 41 ∷ []) more)
          ∙ i.is_read ∙ closes constants i.left (z ∷ values) i.still waiting more (i.settles 1 (rank_least e) (omega arith));
      settles = λ r m k. refl;
    }
reads constants (after op e) z values waiting more g l h =
    let t = two_hold (leb (least_after op) (rank e)) (is_grouped e) g in
    let m : least_after op ≤ rank e = at_least (least_after op) (rank e) t.0 in
    let i = reads constants e h.0 values (waits.Prefix op ∷ waiting) more t.1 m h.1 in
    record {
      left = i.left;
      still = i.still;
      is_read = opened constants values waiting op (spelled e ++ more) l ∙ i.is_read;
      settles = λ r p k. i.settles r (omega (arith, p, m, after_least op)) k ∙ applies_prefix op h.0 z values waiting r p h.2;
    }
reads constants (joined op e f) z values waiting more g l h =
    let t = two_hold (leb (infix_rank op) (rank e) && ltb (infix_rank op) (rank f) && is_grouped e) (is_grouped f) g in
    let u = two_hold (leb (infix_rank op) (rank e) && ltb (infix_rank op) (rank f)) (is_grouped e) t.0 in
    let v = two_hold (leb (infix_rank op) (rank e)) (ltb (infix_rank op) (rank f)) u.0 in
    let m : infix_rank op ≤ rank e = at_least (infix_rank op) (rank e) v.0 in
    let n : suc (infix_rank op) ≤ rank f = above (infix_rank op) (rank f) v.1 in
    let i = reads constants e h.0 values waiting (infix_piece op ∷ (spelled f ++ more)) u.1 (omega (arith, l, m)) h.2 in
    let j = reads constants f h.1 (h.0 ∷ values) (waits.Infix op ∷ waiting) more t.1 n h.3 in
    record {
      left = j.left;
      still = j.still;
      is_read = ap (λ ps. run constants (before values waiting) ps) (append_assoc (spelled e) (infix_piece op ∷ spelled f) more)
          ∙ i.is_read
          ∙ joins constants i.left (h.0 ∷ values) i.still waiting op (spelled f ++ more)
          (i.settles (infix_rank op) m (omega (arith, infix_least op)) ∙ stays op (h.0 ∷ values) waiting l)
          ∙ j.is_read;
      settles = λ r p k. j.settles r (omega (arith, p, n)) k ∙ applies_infix op h.0 h.1 z values waiting r p h.4;
    }

pub calculates : {A : Type 0} (constants : List (Constant A)) (e : Expression) (z : ℤ)
    → is_grouped e ≡ true → HasValue constants e z → calculated constants (spelled e) ≡ Some z
calculates constants e z g h =
    let i = reads constants e z [] [] [] g (rank_least e) h in
    let s : run constants start (spelled e) ≡ Some (behind i.left i.still) =
    ap (λ ps. run constants start ps) (sym (append-nil (spelled e))) ∙ i.is_read in
    rw (s, i.settles 1 (rank_least e) (omega arith)) refl

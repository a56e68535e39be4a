-- What may follow an operator, and which operator a piece is.
use Rattle.std.proofs.Common.{◌≡◌, ℕ, suc, ◌≤◌, Bool, true, false, ◌&&◌, ltb, List, [], ◌∷◌, Option, Some, refl, arith, ap, sym, ◌∙◌}
use Rattle.std.specs.Prelude.{ℤ, ◌==◌, if◌then◌else◌}
use Rattle.a2_expand.specs.declared.value.Prefix.{Prefix}
use Rattle.a2_expand.specs.declared.value.Prefix.TheVariants.{Low, High, Negate, Invert}
use Rattle.a2_expand.specs.declared.value.Infix.{Infix}
use Rattle.a2_expand.specs.declared.value.Infix.TheVariants.{Equal, Unequal, Less, Greater, AtMost, AtLeast, Add, Subtract, Or, Multiply, Divide, Remainder, And, Xor, ShiftLeft, ShiftRight}
use Rattle.a2_expand.specs.declared.value.Waiting.{Waiting}
use Rattle.a2_expand.specs.declared.value.Waiting.TheVariants as waits
use Rattle.a2_expand.specs.Expressions.{Expression, number, name, bracketed, after, joined, Piece, number_piece, name_piece, sign, signs, other, prefix_piece, infix_piece, prefix_rank, infix_rank, rank, least_after}
use Rattle.a2_expand.specs.Calculating.{settled, is_beginning, opening, sign_infix, signs_infix, infix_of, is_close}

-- the least rank of what may begin where these wait
abbrev pub need : List Waiting → ℕ
need [] = 1
need (waits.Open ∷ waiting) = 1
need (waits.Prefix op ∷ waiting) = least_after op
need (waits.Infix op ∷ waiting) = suc (infix_rank op)

pub infix_least : (op : Infix) → 2 ≤ infix_rank op
infix_least op = elim op as (λ op. 2 ≤ infix_rank op) [
  | Equal ↦ omega arith
  | Unequal ↦ omega arith
  | Less ↦ omega arith
  | Greater ↦ omega arith
  | AtMost ↦ omega arith
  | AtLeast ↦ omega arith
  | Add ↦ omega arith
  | Subtract ↦ omega arith
  | Or ↦ omega arith
  | Multiply ↦ omega arith
  | Divide ↦ omega arith
  | Remainder ↦ omega arith
  | And ↦ omega arith
  | Xor ↦ omega arith
  | ShiftLeft ↦ omega arith
  | ShiftRight ↦ omega arith
]

pub infix_most : (op : Infix) → infix_rank op ≤ 4
infix_most op = elim op as (λ op. infix_rank op ≤ 4) [
  | Equal ↦ omega arith
  | Unequal ↦ omega arith
  | Less ↦ omega arith
  | Greater ↦ omega arith
  | AtMost ↦ omega arith
  | AtLeast ↦ omega arith
  | Add ↦ omega arith
  | Subtract ↦ omega arith
  | Or ↦ omega arith
  | Multiply ↦ omega arith
  | Divide ↦ omega arith
  | Remainder ↦ omega arith
  | And ↦ omega arith
  | Xor ↦ omega arith
  | ShiftLeft ↦ omega arith
  | ShiftRight ↦ omega arith
]

pub prefix_least : (op : Prefix) → 1 ≤ prefix_rank op
prefix_least Low = omega arith
prefix_least High = omega arith
prefix_least Negate = omega arith
prefix_least Invert = omega arith

pub after_least : (op : Prefix) → prefix_rank op ≤ least_after op
after_least Low = omega arith
after_least High = omega arith
after_least Negate = omega arith
after_least Invert = omega arith

pub rank_least : (e : Expression) → 1 ≤ rank e
rank_least (number n) = omega arith
rank_least (name word) = omega arith
rank_least (bracketed e) = omega arith
rank_least (after op e) = prefix_least op
rank_least (joined op e f) = omega (arith, infix_least op)

need_after : (op : Prefix) → least_after op ≤ 5
need_after Low = omega arith
need_after High = omega arith
need_after Negate = omega arith
need_after Invert = omega arith

pub need_most : (waiting : List Waiting) → need waiting ≤ 5
need_most [] = omega arith
need_most (waits.Open ∷ waiting) = omega arith
need_most (waits.Prefix op ∷ waiting) = need_after op
need_most (waits.Infix op ∷ waiting) = omega (arith, infix_most op)

-- a piece for an operator is read as it

pub infix_of_piece : (op : Infix) → infix_of (infix_piece op) ≡ Some op
infix_of_piece op = elim op as (λ op. infix_of (infix_piece op) ≡ Some op) [
  | Equal ↦ refl
  | Unequal ↦ refl
  | Less ↦ refl
  | Greater ↦ refl
  | AtMost ↦ refl
  | AtLeast ↦ refl
  | Add ↦ refl
  | Subtract ↦ refl
  | Or ↦ refl
  | Multiply ↦ refl
  | Divide ↦ refl
  | Remainder ↦ refl
  | And ↦ refl
  | Xor ↦ refl
  | ShiftLeft ↦ refl
  | ShiftRight ↦ refl
]

pub infix_is_no_close : (op : Infix) → is_close (infix_piece op) ≡ false
infix_is_no_close op = elim op as (λ op. is_close (infix_piece op) ≡ false) [
  | Equal ↦ refl
  | Unequal ↦ refl
  | Less ↦ refl
  | Greater ↦ refl
  | AtMost ↦ refl
  | AtLeast ↦ refl
  | Add ↦ refl
  | Subtract ↦ refl
  | Or ↦ refl
  | Multiply ↦ refl
  | Divide ↦ refl
  | Remainder ↦ refl
  | And ↦ refl
  | Xor ↦ refl
  | ShiftLeft ↦ refl
  | ShiftRight ↦ refl
]

begins_by_need : (waiting : List Waiting) → need waiting ≤ 1 → is_beginning waiting ≡ true
begins_by_need [] l = refl
begins_by_need (waits.Open ∷ waiting) l = refl
begins_by_need (waits.Prefix Low ∷ waiting) l = absurd (omega arith)
begins_by_need (waits.Prefix High ∷ waiting) l = absurd (omega arith)
begins_by_need (waits.Prefix Negate ∷ waiting) l = absurd (omega arith)
begins_by_need (waits.Prefix Invert ∷ waiting) l = absurd (omega arith)
begins_by_need (waits.Infix op ∷ waiting) l = absurd (omega (arith, infix_least op))

need_by_begins : (waiting : List Waiting) → is_beginning waiting ≡ true → need waiting ≤ 1
need_by_begins [] b = omega arith
need_by_begins (waits.Open ∷ waiting) b = omega arith
need_by_begins (waits.Prefix op ∷ waiting) b = absurd cc
need_by_begins (waits.Infix op ∷ waiting) b = absurd cc

pub opening_of_piece : (op : Prefix) (waiting : List Waiting) → need waiting ≤ prefix_rank op → opening (is_beginning waiting) (prefix_piece op) ≡ Some (waits.Prefix op)
opening_of_piece Low waiting l = rw (begins_by_need waiting l) refl
opening_of_piece High waiting l = rw (begins_by_need waiting l) refl
opening_of_piece Negate waiting l = refl
opening_of_piece Invert waiting l = refl

-- and only such a piece is

pick : {X P : Type 0} (b : Bool) (x : X) (o : Option X) (y : X) → (if b then Some x else o) ≡ Some y → (b ≡ true → x ≡ y → P) → (o ≡ Some y → P) → P
pick true x o y h f g = f refl cc
pick false x o y h f g = g h

same : (a b : ℕ) → (a == b) ≡ true → a ≡ b
same a b h = grind arith

both : (a b : Bool) → (a && b) ≡ true → (a ≡ true) × (b ≡ true)
both true true h = (refl, refl)
both true false h = absurd cc
both false b h = absurd cc

one : (c k : ℕ) (x op : Infix) → infix_piece x ≡ sign k → (c == k) ≡ true → x ≡ op → sign c ≡ infix_piece op
one c k x op is t e = ap sign (same c k t) ∙ sym is ∙ ap infix_piece e

two : (c d k m : ℕ) (x op : Infix) → infix_piece x ≡ signs k m → (c == k && d == m) ≡ true → x ≡ op → signs c d ≡ infix_piece op
two c d k m x op is t e =
    ap (λ c. signs c d) (same c k (both (c == k) (d == m) t).0) ∙ ap (signs k) (same d m (both (c == k) (d == m) t).1) ∙ sym is ∙ ap infix_piece e

sign_means : (c : ℕ) (op : Infix) → sign_infix c ≡ Some op → sign c ≡ infix_piece op
sign_means c op h =
    pick _ Add _ op h (λ t e. one c 43 Add op refl t e) (λ h.
    pick _ Subtract _ op h (λ t e. one c 45 Subtract op refl t e) (λ h.
    pick _ Or _ op h (λ t e. one c 124 Or op refl t e) (λ h.
    pick _ Multiply _ op h (λ t e. one c 42 Multiply op refl t e) (λ h.
    pick _ Divide _ op h (λ t e. one c 47 Divide op refl t e) (λ h.
    pick _ Remainder _ op h (λ t e. one c 37 Remainder op refl t e) (λ h.
    pick _ And _ op h (λ t e. one c 38 And op refl t e) (λ h.
    pick _ Xor _ op h (λ t e. one c 94 Xor op refl t e) (λ h.
    pick _ Equal _ op h (λ t e. one c 61 Equal op refl t e) (λ h.
    pick _ Less _ op h (λ t e. one c 60 Less op refl t e) (λ h.
    pick _ Greater _ op h (λ t e. one c 62 Greater op refl t e) (λ h. absurd cc)))))))))))

signs_mean : (c d : ℕ) (op : Infix) → signs_infix c d ≡ Some op → signs c d ≡ infix_piece op
signs_mean c d op h =
    pick _ ShiftLeft _ op h (λ t e. two c d 60 60 ShiftLeft op refl t e) (λ h.
    pick _ ShiftRight _ op h (λ t e. two c d 62 62 ShiftRight op refl t e) (λ h.
    pick _ Unequal _ op h (λ t e. two c d 60 62 Unequal op refl t e) (λ h.
    pick _ AtMost _ op h (λ t e. two c d 60 61 AtMost op refl t e) (λ h.
    pick _ AtLeast _ op h (λ t e. two c d 62 61 AtLeast op refl t e) (λ h. absurd cc)))))

pub infix_means : (p : Piece) (op : Infix) → infix_of p ≡ Some op → p ≡ infix_piece op
infix_means (number_piece n) op h = absurd cc
infix_means (name_piece word) op h = absurd cc
infix_means (sign c) op h = sign_means c op h
infix_means (signs c d) op h = signs_mean c d op h
infix_means other op h = absurd cc

pub close_means : (p : Piece) → is_close p ≡ true → p ≡ sign 41
close_means (number_piece n) h = absurd cc
close_means (name_piece word) h = absurd cc
close_means (sign c) h = ap sign (same c 41 h)
close_means (signs c d) h = absurd cc
close_means other h = absurd cc

-- what opens where these wait
pub record OpensAs (waiting : List Waiting) (p : Piece) (w : Waiting) (op : Prefix) : Type 0 where
  pub is : w ≡ waits.Prefix op
  pub is_piece : p ≡ prefix_piece op
  pub may : need waiting ≤ prefix_rank op

begins_as : (waiting : List Waiting) (c k : ℕ) (w : Waiting) (op : Prefix) → prefix_piece op ≡ sign k → prefix_rank op ≡ 1 →
    (is_beginning waiting && c == k) ≡ true → waits.Prefix op ≡ w → OpensAs waiting (sign c) w op
begins_as waiting c k w op is low t e = record {
  is = sym e;
  is_piece = ap sign (same c k (both (is_beginning waiting) (c == k) t).1) ∙ sym is;
  may = omega (arith, need_by_begins waiting (both (is_beginning waiting) (c == k) t).0);
}

pub opening_means : {P : Type 0} (waiting : List Waiting) (p : Piece) (w : Waiting) → opening (is_beginning waiting) p ≡ Some w
    → (w ≡ waits.Open → p ≡ sign 40 → P) → ((op : Prefix) → OpensAs waiting p w op → P) → P
opening_means waiting (sign c) w h f g =
    pick _ (waits.Prefix Negate) _ w h (λ t e. g Negate (record { is = sym e; is_piece = ap sign (same c 45 t); may = need_most waiting })) (λ h.
    pick _ (waits.Prefix Invert) _ w h (λ t e. g Invert (record { is = sym e; is_piece = ap sign (same c 126 t); may = need_most waiting })) (λ h.
    pick _ waits.Open _ w h (λ t e. f (sym e) (ap sign (same c 40 t))) (λ h.
    pick _ (waits.Prefix Low) _ w h (λ t e. g Low (begins_as waiting c 60 w Low refl refl t e)) (λ h.
    pick _ (waits.Prefix High) _ w h (λ t e. g High (begins_as waiting c 62 w High refl refl t e)) (λ h. absurd cc)))))
opening_means waiting (number_piece n) w h f g = absurd cc
opening_means waiting (name_piece word) w h f g = absurd cc
opening_means waiting (signs c d) w h f g = absurd cc
opening_means waiting other w h f g = absurd cc

-- nothing is applied where what waits binds less tightly
pub stays : (op : Infix) (values : List ℤ) (waiting : List Waiting) → need waiting ≤ infix_rank op → settled (infix_rank op) values waiting ≡ Some (values, waiting)
stays op values [] l = refl
stays op values (waits.Open ∷ waiting) l =
    let t : ltb 0 (infix_rank op) ≡ true = grind (arith, infix_least op) in rw t refl
stays op values (waits.Prefix Low ∷ waiting) l =
    let t : ltb 1 (infix_rank op) ≡ true = grind (arith, infix_least op) in rw t refl
stays op values (waits.Prefix High ∷ waiting) l =
    let t : ltb 1 (infix_rank op) ≡ true = grind (arith, infix_least op) in rw t refl
stays op values (waits.Prefix Negate ∷ waiting) l = absurd (omega (arith, infix_most op))
stays op values (waits.Prefix Invert ∷ waiting) l = absurd (omega (arith, infix_most op))
stays op values (waits.Infix before ∷ waiting) l =
    let t : ltb (infix_rank before) (infix_rank op) ≡ true = grind arith in rw t refl

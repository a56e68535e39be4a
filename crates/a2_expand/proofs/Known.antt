-- An expression with a value has no address.
use Rattle.std.proofs.Common.{zero, suc, ◌+◌, ◌<◌, length, drop, add-one, arith, ◌≡◌, ℕ, Bool, true, false, ◌||◌, List, [], ◌∷◌, ◌++◌, refl, ap, ◌∙◌}
use Rattle.std.specs.Prelude.{ℤ}
use Rattle.std.specs.List.{list_any}
use Rattle.a2_expand.specs.declared.token.Placed.{Placed}
use Rattle.a2_expand.specs.declared.value.Constant.{Constant}
use Rattle.a2_expand.specs.declared.value.Prefix.{Prefix}
use Rattle.a2_expand.specs.declared.value.Prefix.TheVariants.{Low, High, Negate, Invert}
use Rattle.a2_expand.specs.declared.value.Infix.{Infix}
use Rattle.a2_expand.specs.declared.value.Infix.TheVariants.{Equal, Unequal, Less, Greater, AtMost, AtLeast, Add, Subtract, Or, Multiply, Divide, Remainder, And, Xor, ShiftLeft, ShiftRight}
use Rattle.a2_expand.specs.Expressions.{Expression, number, name, bracketed, after, joined, Piece, sign, prefix_piece, infix_piece, spelled, HasValue, Says, piece, pieces}
use Rattle.a2_expand.specs.Written.{is_unknown}

by_test : {P : Type 0} (b : Bool) → (b ≡ true → P) → (b ≡ false → P) → P
by_test true f g = f refl
by_test false f g = g refl

never : true ≡ false → ⊥
never h = cc

nowhere : {X : Type 0} (p : X → Bool) (xs ys : List X) → list_any p xs ≡ false → list_any p ys ≡ false → list_any p (xs ++ ys) ≡ false
nowhere p [] ys h k = k
nowhere p (x ∷ xs) ys h k = by_test (p x)
    (λ t. absurd (never (rw t at h)))
    (λ f. rw f (nowhere p xs ys (rw f at h) k))

prefix_known : {A : Type 0} (constants : List (Constant A)) (op : Prefix) → is_unknown constants (prefix_piece op) ≡ false
prefix_known constants Low = refl
prefix_known constants High = refl
prefix_known constants Negate = refl
prefix_known constants Invert = refl

infix_known : {A : Type 0} (constants : List (Constant A)) (op : Infix) → is_unknown constants (infix_piece op) ≡ false
infix_known constants op = elim op as (λ op. is_unknown constants (infix_piece op) ≡ false) [
  | Equal ↦ refl
  | Unequal ↦ refl
  | Less ↦ refl
  | Greater ↦ refl
  | AtMost ↦ refl
  | AtLeast ↦ refl
  | Add ↦ refl
  | Subtract ↦ refl
  | Or ↦ refl
  | Multiply ↦ refl
  | Divide ↦ refl
  | Remainder ↦ refl
  | And ↦ refl
  | Xor ↦ refl
  | ShiftLeft ↦ refl
  | ShiftRight ↦ refl
]

all_known : {A : Type 0} (constants : List (Constant A)) (e : Expression) (z : ℤ) → HasValue constants e z → list_any (is_unknown constants) (spelled e) ≡ false
all_known constants (number n) z h = refl
all_known constants (name word) z h = rw h refl
all_known constants (bracketed e) z h = nowhere (is_unknown constants) (spelled e) (sign 41 ∷ []) (all_known constants e z h) refl
all_known constants (after op e) z h = rw (prefix_known constants op) (all_known constants e h.0 h.1)
all_known constants (joined op e f) z h =
    nowhere (is_unknown constants) (spelled e) (infix_piece op ∷ spelled f) (all_known constants e h.0 h.2)
    (rw (infix_known constants op) (all_known constants f h.1 h.3))

pub no_address : {A : Type 0} (constants : List (Constant A)) (all : List Piece) (z : ℤ) → Says constants all z → list_any (is_unknown constants) all ≡ false
no_address constants all z says = ap (list_any (is_unknown constants)) says.is_spelled ∙ all_known constants says.expression z says.has_value

or_true : (a b : Bool) → b ≡ true → (a || b) ≡ true
or_true true b h = refl
or_true false b h = h

any_after : {A : Type 0} (constants : List (Constant A)) (tokens : List Placed) (i : ℕ) → i < length tokens
    → list_any (is_unknown constants) (pieces (drop (suc i) tokens)) ≡ true → list_any (is_unknown constants) (pieces (drop i tokens)) ≡ true
any_after constants [] i l h = absurd (omega arith)
any_after constants (token ∷ tokens) zero l h = or_true (is_unknown constants (piece token.token)) _ h
any_after constants (token ∷ tokens) (suc i) l h = any_after constants tokens i (omega arith) h

-- an address among the later tokens
pub any_later : {A : Type 0} (constants : List (Constant A)) (tokens : List Placed) (i : ℕ) → i < length tokens
    → list_any (is_unknown constants) (pieces (drop (i + 1) tokens)) ≡ true → list_any (is_unknown constants) (pieces (drop i tokens)) ≡ true
any_later constants tokens i l h = any_after constants tokens i l (rw add-one at h)

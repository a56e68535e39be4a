-- Where the reader of words and signs stops: at a token that does not belong to the expression before it.
use Rattle.std.specs.Prelude.{◌≡◌, ℕ, ◌≤◌, ◌<◌, min, Bool, true, false, ◌&&◌, nat_lt, nat_le, List, [], ◌∷◌, Option, Some, None}
use Rattle.std.proofs.Common.{refl, arith}
use Rattle.std.proofs.lemmas.Bool.{cond-false, ltb-true, lt-ltb, lt-leb}
use Rattle.a2_promise.specs.declared.expr.Operation.TheVariants as operation
use Rattle.a2_promise.specs.declared.words.Infix.{Infix}
use Rattle.a2_promise.specs.declared.words.Infix.TheVariants.{Iff, Compare, Apply}
use Rattle.a2_promise.specs.declared.words.Relation.TheVariants.{Equal}
use Rattle.a2_promise.specs.Tokens.{Token}
use Rattle.a2_promise.specs.Written.{Written, infix_token}
use Rattle.a2_promise.specs.Grammar.{infix_rank, tightest, takes_from, takes_else}
use Rattle.a2_promise.proofs.Finder.{joint_of, if_tight, joint_next, is_else}

-- no operator that binds as tightly as this comes next
abbrev pub is_looser : ℕ → Option Infix → Bool
is_looser limit None = true
is_looser limit (Some join) = nat_lt (infix_rank join) limit

abbrev pub is_past : ℕ → List Token → Bool
is_past limit [] = true
is_past limit (token ∷ more) = is_looser limit (joint_of token)

-- what follows an expression that was read completely: nothing that its last part would take
pub record Ends (e : Written) (rest : List Token) : Type 0 where
  pub joints : is_past (takes_from e) rest ≡ true
  pub choice : (takes_else e && is_else rest) ≡ false

looser_mono : (a b : ℕ) (o : Option Infix) → a ≤ b → is_looser a o ≡ true → is_looser b o ≡ true
looser_mono a b None l h = refl
looser_mono a b (Some join) l h = let lt = ltb-true (infix_rank join) a h in lt-ltb (infix_rank join) b (omega (arith, lt, l))

pub past_mono : (a b : ℕ) (rest : List Token) → a ≤ b → is_past a rest ≡ true → is_past b rest ≡ true
past_mono a b [] l h = refl
past_mono a b (token ∷ more) l h = looser_mono a b (joint_of token) l h

pub past_min_left : (a b : ℕ) (rest : List Token) → is_past (min a b) rest ≡ true → is_past a rest ≡ true
past_min_left a b rest h = let l : min a b ≤ a = omega arith in past_mono (min a b) a rest l h

pub past_min_right : (a b : ℕ) (rest : List Token) → is_past (min a b) rest ≡ true → is_past b rest ≡ true
past_min_right a b rest h = let l : min a b ≤ b = omega arith in past_mono (min a b) b rest l h

not_tight : (r : ℕ) (o : Option Infix) → is_looser r o ≡ true → if_tight r o ≡ None
not_tight r None h = refl
not_tight r (Some join) h =
    let lt = ltb-true (infix_rank join) r h in
    cond-false (nat_le r (infix_rank join)) (Some join) None (lt-leb r (infix_rank join) lt)

pub none_next : (r : ℕ) (rest : List Token) → is_past r rest ≡ true → joint_next r rest ≡ None
none_next r [] h = refl
none_next r (token ∷ more) h = not_tight r (joint_of token) h

-- the token of an operator determines it, if something may follow it
pub joint_is : (join : Infix) → infix_rank join < tightest → joint_of (infix_token join) ≡ Some join
joint_is (Apply operation.Min) l = absurd (omega (arith, l))
joint_is (Apply operation.Max) l = absurd (omega (arith, l))
joint_is (Apply operation.Bit) l = absurd (omega (arith, l))
joint_is (Apply operation.Equal) l = absurd (omega (arith, l))
joint_is (Apply operation.Less) l = absurd (omega (arith, l))
joint_is (Apply operation.AtMost) l = absurd (omega (arith, l))
joint_is (Compare Equal) l = refl
joint_is _ l = refl

pub no_else : (join : Infix) (rest : List Token) → is_else (infix_token join ∷ rest) ≡ false
no_else Iff rest = refl
no_else _ rest = refl

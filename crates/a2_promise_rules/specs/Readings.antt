-- Examples of expressions where only one of two ways to read the same tokens fits. This project's own.
use Rattle.std.specs.Prelude.{◌≡◌, ℕ, false, IsTrue, List, [], codes}
use Rattle.a2_promise.specs.declared.expr.Atom.TheVariants.{A, X, Y, Carry, Zero, Negative, Overflow}
use Rattle.a2_promise.specs.declared.expr.Operation.TheVariants.{Plus, Minus, Times}
use Rattle.a2_promise.specs.declared.words.Infix.TheVariants.{And, Compare, Apply}
use Rattle.a2_promise.specs.declared.words.Relation.TheVariants.{Equal, Less}
use Rattle.a2_promise.specs.Tokens.{tokens, decimal as digits}
use Rattle.a2_promise.specs.Written.{Written, atom, decimal, negated, joined, provided, one_of, spelled}
use Rattle.a2_promise.specs.Grammar.{Scope, fits}

abbrev nowhere : Scope
nowhere = record { names = []; is_within = false; around = [] }

abbrev one : Written
one = decimal (digits (codes "1")) 1

abbrev is : Written → Written → Written
is = joined (Compare Equal)

abbrev below : Written → Written → Written
below = joined (Compare Less)

abbrev sum : Written → Written → Written
sum = joined (Apply Plus)

abbrev difference : Written → Written → Written
difference = joined (Apply Minus)

abbrev product : Written → Written → Written
product = joined (Apply Times)

-- a text has the tokens of both trees, and only the first tree fits
abbrev pub IsReadAs : List ℕ → Written → Written → Type 0
IsReadAs text e other =
    (tokens text ≡ spelled e) × (tokens text ≡ spelled other) × IsTrue (fits nowhere e) × (fits nowhere other ≡ false)

abbrev pub OneReadingFits : Type 0
OneReadingFits =
    IsReadAs (codes "A = 1 + X * Y")
    (is (atom A) (sum one (product (atom X) (atom Y))))
    (is (atom A) (product (sum one (atom X)) (atom Y)))
    × IsReadAs (codes "A = X - Y - 1")
    (is (atom A) (difference (difference (atom X) (atom Y)) one))
    (is (atom A) (difference (atom X) (difference (atom Y) one)))
    × IsReadAs (codes "1 < A < X")
    (below (below one (atom A)) (atom X))
    (below one (below (atom A) (atom X)))
    × IsReadAs (codes "not C and Z")
    (joined And (negated (atom Carry)) (atom Zero))
    (negated (joined And (atom Carry) (atom Zero)))
    × IsReadAs (codes "if C then if Z then N else V")
    (provided (atom Carry) (one_of (atom Zero) (atom Negative) (atom Overflow)))
    (one_of (atom Carry) (provided (atom Zero) (atom Negative)) (atom Overflow))

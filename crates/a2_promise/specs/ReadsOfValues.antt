-- What an expression reads, and that its value depends on nothing else. This project's own.
use Rattle.std.specs.Prelude.{◌≡◌, ◌<◌, ℕ, ◌+◌, ◌%◌, ℤ, pos, Bool, true, false, IsTrue, List, Option, Some, None, slice_get, slice_set}
use Rattle.a2_promise.specs.declared.expr.Atom.{Atom}
use Rattle.a2_promise.specs.declared.expr.Expr.{Expr}
use Rattle.a2_promise.specs.declared.expr.Expr.TheVariants.{Number, Held, Bound, Old', At', Of', Pair', Choice', Each', Sum'}
use Rattle.a2_promise.specs.declared.expr.Function.{Function}
use Rattle.a2_promise.specs.declared.expr.Function.TheVariants as function
use Rattle.a2_promise.specs.Values.{Moment, held, word_in, is_zero, count_of, value_of}

-- what is known of a state
pub record Known : Type 0 where
  pub bytes : ℕ → Bool
  pub atoms : Atom → Bool

-- two states agree on what is known
pub record AgreeAt (known : Known) (m n : Moment) : Type 0 where
  pub bytes : (a : ℕ) → IsTrue (known.bytes a) → slice_get m.bytes a ≡ slice_get n.bytes a
  pub atoms : (atom : Atom) → IsTrue (known.atoms atom) → held atom m ≡ held atom n

-- a byte is known; then the same for two bytes
abbrev pub KnowsByte : Known → Option ℕ → Type 0
KnowsByte known None = Unit {0}
KnowsByte known (Some a) = IsTrue (known.bytes a)

abbrev pub KnowsWord : Known → Option ℕ → Type 0
KnowsWord known None = Unit {0}
KnowsWord known (Some a) = IsTrue (known.bytes a) × IsTrue (known.bytes ((a + 1) % 65536))

-- what a function reads is known
abbrev pub KnowsMade : Function → Known → Option ℤ → Type 0
KnowsMade function.Byte known (Some x) = KnowsByte known (word_in x)
KnowsMade function.Word known (Some x) = KnowsWord known (word_in x)
KnowsMade _ known _ = Unit {0}

-- the condition for the branch that a number chooses; nothing if the number has no value
abbrev pub OfBoth : Bool → Type 0 → Type 0 → Type 0
OfBoth true one other = other
OfBoth false one other = one

abbrev pub OfChosen : Option ℤ → Type 0 → Type 0 → Type 0
OfChosen None one other = Unit {0}
OfChosen (Some x) one other = OfBoth (is_zero x) one other

abbrev pub IsBelow : ℕ → Option ℕ → Type 0
IsBelow k None = ⊥
IsBelow k (Some n) = k < n

-- everything that the value of an expression reads is known, both at the entry and at the exit
abbrev pub Knows : Expr → Known → Known → Moment → Moment → List ℤ → Type 0
Knows (Number n) before following entry exit names = Unit {0}
Knows (Held atom) before following entry exit names = IsTrue (following.atoms atom)
Knows (Bound name) before following entry exit names = Unit {0}
Knows (Old' p e) before following entry exit names = Knows e before before entry entry names
Knows (At' a p e) before following entry exit names = Unit {0}
Knows (Of' f p e) before following entry exit names =
    Knows e before following entry exit names × KnowsMade f following (value_of e entry exit names)
Knows (Pair' op p x q y) before following entry exit names =
    Knows x before following entry exit names × Knows y before following entry exit names
Knows (Choice' p c q x r y) before following entry exit names =
    Knows c before following entry exit names
    × OfChosen (value_of c entry exit names) (Knows x before following entry exit names) (Knows y before following entry exit names)
Knows (Each' name p n q e) before following entry exit names =
    Knows n before following entry exit names
    × ((k : ℕ) → IsBelow k (count_of (value_of n entry exit names)) → Knows e before following entry exit (slice_set names name (pos k)))
Knows (Sum' name p n q e) before following entry exit names =
    Knows n before following entry exit names
    × ((k : ℕ) → IsBelow k (count_of (value_of n entry exit names)) → Knows e before following entry exit (slice_set names name (pos k)))

-- if two pairs of states agree on what an expression reads, the expression has the same value in both
abbrev pub ValuesDependOnlyOnReads : Type 0
ValuesDependOnlyOnReads =
    (e : Expr) (before following : Known) (entry exit other_entry other_exit : Moment) (names : List ℤ)
    → AgreeAt before entry other_entry → AgreeAt following exit other_exit → Knows e before following entry exit names
    → value_of e entry exit names ≡ value_of e other_entry other_exit names

-- What the expressions of a promise say, independent of where they are stored in memory. This project's own.
use Rattle.std.specs.Prelude.{ℕ, ℤ}
use Rattle.a2_promise.specs.declared.expr.Atom.{Atom}
use Rattle.a2_promise.specs.declared.expr.Expr.{Expr}
use Rattle.a2_promise.specs.declared.expr.Expr.TheVariants.{Number, Held, Bound, Old', At', Of', Pair', Choice', Each', Sum'}
use Rattle.a2_promise.specs.declared.expr.Function.{Function}
use Rattle.a2_promise.specs.declared.expr.Operation.{Operation}

-- an expression without the memory locations of its parts
pub data Phrase : Type 0 where
  number : ℤ → Phrase
  held : Atom → Phrase
  bound : ℕ → Phrase
  old : Phrase → Phrase
  at : ℕ → Phrase → Phrase
  of : Function → Phrase → Phrase
  pair : Operation → Phrase → Phrase → Phrase
  choice : Phrase → Phrase → Phrase → Phrase
  each : ℕ → Phrase → Phrase → Phrase
  sum : ℕ → Phrase → Phrase → Phrase

abbrev pub phrase_of : Expr → Phrase
phrase_of (Number n) = number n
phrase_of (Held atom) = held atom
phrase_of (Bound name) = bound name
phrase_of (Old' p e) = old (phrase_of e)
phrase_of (At' a p e) = at a (phrase_of e)
phrase_of (Of' f p e) = of f (phrase_of e)
phrase_of (Pair' op p x q y) = pair op (phrase_of x) (phrase_of y)
phrase_of (Choice' p c q x r y) = choice (phrase_of c) (phrase_of x) (phrase_of y)
phrase_of (Each' name p n q e) = each name (phrase_of n) (phrase_of e)
phrase_of (Sum' name p n q e) = sum name (phrase_of n) (phrase_of e)

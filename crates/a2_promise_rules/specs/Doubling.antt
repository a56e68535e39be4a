-- An example of a promise that is proved: a routine doubles A if A is below 128. This project's own.
use Rattle.std.specs.Prelude.{pos, true, false, ℕ, List, [], ◌∷◌, codes}
use Rattle.std.specs.List.{concat}
use Rattle.a2_promise.specs.declared.expr.Atom.TheVariants as atom
use Rattle.a2_promise.specs.declared.expr.Operation.TheVariants as operation
use Rattle.a2_promise.specs.Phrases.{number, held, old, pair}
use Rattle.a2_promise.specs.PromisedTerms.{Terms, IsPromisedBy}
use Rattle.a2_promise_rules.specs.Promised.{lines_of_routines, IsProved}

abbrev pub doubling : List ℕ
doubling = concat (
    codes ";: requires A < 128\n" ∷
    codes ";: ensures  A = 2 * old A\n" ∷
    codes ";: changes  A\n" ∷
    codes "DOUBLE ASL\n" ∷
    codes "       RTS\n" ∷
    [])

abbrev pub double : Terms
double = record {
  address = 0x300;
  wanted = pair operation.Less (held atom.A) (number (pos 128)) ∷ [];
  promised = pair operation.Equal (held atom.A) (pair operation.Times (number (pos 2)) (old (held atom.A))) ∷ [];
  a = true;
  x = false;
  y = false;
  ranges = [];
  prints = [];
  takes = [];
}

-- its lines promise this, with three lines above the label
abbrev pub DoublingStates : Type 0
DoublingStates = IsPromisedBy (lines_of_routines doubling) ((codes "DOUBLE", 0x300) ∷ []) 3 (codes "DOUBLE") double

abbrev pub DoublingIsProved : Type 0
DoublingIsProved = IsProved doubling (codes "DOUBLE")

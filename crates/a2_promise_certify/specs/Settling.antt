-- Bytes whose value clauses fix, for the contracts of the crate's private functions.
use Rattle.std.specs.Prelude.{◌≡◌, ◌<◌, ℕ, Bool, false, IsTrue, List, map, Some, slice_get, slice_index}
use Rattle.std.specs.List.{list_any}
use Rattle.a2_bus.specs.BusState.{BusState}
use Rattle.a2_services.specs.World.{World}
use Rattle.a2_promise.specs.Values.{Moment}
use Rattle.a2_promise.specs.declared.promises.Clause.{Clause}
use Rattle.a2_footprint.specs.declared.Part.{Part}
use Rattle.a2_footprint.specs.Counting.{IsState}
use Rattle.a2_promise_certify.specs.declared.input.Input.{Input}
use Rattle.a2_promise_certify.specs.But.{IsEqualExcept}
use Rattle.a2_promise_certify.specs.Judging.{all_hold}
use Rattle.a2_promise_certify.specs.States.{has_byte, has_part, holds_part, is_byte, value_in, values_of}

-- the bytes of inputs are below 256
abbrev pub AreBytes : List Input → List ℕ → Type 0
AreBytes inputs bytes = (a byte : ℕ) → IsTrue (list_any (is_byte a) inputs) → slice_get bytes a ≡ Some byte → byte < 256

-- whenever a test is true, this byte is at an address
abbrev pub Settles : (Moment → Bool) → List Input → ℕ → ℕ → Type 0
Settles test inputs a byte = (m : Moment) → AreBytes inputs m.bytes → IsTrue (test m) → slice_get m.bytes a ≡ Some byte

-- whenever the clauses hold, this byte is at an address
abbrev pub ClausesSettle : List Clause → List Input → ℕ → ℕ → Type 0
ClausesSettle clauses inputs a byte = Settles (λ m. all_hold clauses m m) inputs a byte

-- an input is a byte that clauses settle, and a board has its value
pub record IsSettled (clauses : List Clause) (among : List Input) (input : Input) (board : BusState) : Type 0 where
  pub part : (part : Part) → holds_part input part ≡ false
  pub byte : (a : ℕ) → IsTrue (is_byte a input) → ClausesSettle clauses among a (slice_index board.bytes a)

-- Some of the inputs are free. Each of the others is a byte that clauses settle, and the board is unchanged except
-- for these.
pub record AreSettled (clauses : List Clause) (among inputs free : List Input) (before board : BusState) : Type 0 where
  pub but : IsEqualExcept (has_byte inputs) board before
  pub bytes : (a : ℕ) → IsTrue (has_byte free a) → IsTrue (has_byte inputs a)
  pub parts : (part : Part) → has_part free part ≡ has_part inputs part
  pub values : (world : World) → IsState (map values_of inputs) (map (value_in world) inputs)
      → IsState (map values_of free) (map (value_in world) free)
  pub settled : (a : ℕ) → IsTrue (has_byte inputs a) → has_byte free a ≡ false
      → ClausesSettle clauses among a (slice_index board.bytes a)

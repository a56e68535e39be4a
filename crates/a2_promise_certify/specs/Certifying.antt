-- A promise that is tried in a state. This project's own.
use Rattle.std.specs.Prelude.{◌≡◌, ◌⊎◌, ◌<◌, ◌≤◌, ℕ, Bool, true, false, IsTrue, not, ◌&&◌, nat_lt, List, length, map}
use Rattle.a2_bus.specs.BusState.{BusState}
use Rattle.a2_bus.specs.Memory.{ram_end}
use Rattle.a2_effect.specs.Registers.{Registers, registers_at}
use Rattle.a2_effect.specs.View.{registers_of}
use Rattle.a2_services.specs.World.{World, world_of}
use Rattle.a2_promise.specs.declared.promises.Changes.{Changes}
use Rattle.a2_promise.specs.declared.promises.Promise.{Promise}
use Rattle.a2_footprint.specs.declared.Part.{Part}
use Rattle.a2_footprint.specs.Counting.{state_at}
use Rattle.a2_footprint.specs.Parts.{held}
use Rattle.a2_footprint.specs.RotatedStack.{in_stack}
use Rattle.a2_promise_certify.specs.declared.one_state.Setup.{Setup}
use Rattle.a2_promise_certify.specs.declared.input.Input.{Input}
use Rattle.a2_promise_certify.specs.declared.input.Input.TheVariants.{Byte}
use Rattle.a2_promise_certify.specs.declared.known_parts.KnownParts.{KnownParts}
use Rattle.a2_promise_certify.specs.declared.walk.Walk.{Walk}
use Rattle.a2_promise_certify.specs.But.{IsEqualExcept}
use Rattle.a2_promise_certify.specs.Kept.{IsKept, IsRequired, AreClausesKnown, known_by, may_change, moment}
use Rattle.a2_promise_certify.specs.States.{has_byte, values_of, with_values}
use Rattle.a2_promise_certify.specs.Walking.{is_set, knows_part}

-- the state with a given number
abbrev pub start_of : Setup → ℕ → World
start_of setup number =
    with_values setup.inputs.now (state_at (map values_of setup.inputs.now) number)
    (world_of (registers_at setup.promise.now.address) setup.base.now 0)

-- The boards are ready for a state. The one before it equals the base, the one in progress does so except for the
-- inputs, and nothing is marked.
pub record IsReady (base : BusState) (inputs : List Input) (before space : BusState) (stored : List Bool) : Type 0 where
  pub before_is : before ≡ base
  pub space_is : IsEqualExcept (has_byte inputs) space base
  pub clear : (a : ℕ) → is_set stored a ≡ false

-- a state before a routine, from which the walk sets out
pub record IsEntered (start : World) (parts : KnownParts) (before : BusState) (walk : Walk) (stored : List Bool) : Type 0 where
  pub world : world_of (registers_of walk.regs) walk.space 0 ≡ start
  pub space : before ≡ walk.space
  pub s : walk.regs.s ≡ 0xFD
  pub cycles : walk.cycles ≡ 0
  pub first_parts : walk.parts ≡ parts
  pub clear : (a : ℕ) → is_set stored a ≡ false

-- A register that may not change is not known afterwards, or it was known and is equal.
abbrev pub AreRegistersKept : Changes → KnownParts → KnownParts → Registers → Registers → Type 0
AreRegistersKept changes parts parts_known_after before following =
    (part : Part) → may_change changes part ≡ false
    → (knows_part parts_known_after part ≡ false) ⊎ (IsTrue (knows_part parts part) × (held part following ≡ held part before))

-- whether the state meets the promise's requirements depends on nothing unknown, and if it meets them, the promise is
-- kept in it
pub record IsStateTried (known : List Bool) (parts : KnownParts) (promise : Promise) (most : ℕ) (start : World) : Type 0 where
  pub looks : AreClausesKnown promise.wanted.items (known_by (is_set known) (knows_part parts))
      (known_by (is_set known) (knows_part parts)) (moment start start 0) (moment start start 0)
  pub kept : IsRequired promise start → IsKept (is_set known) (knows_part parts) promise most start

-- an input may be varied: it is a register, a flag, or a byte of RAM outside the stack's page
abbrev pub may_vary : Input → Bool
may_vary (Byte a) = nat_lt a ram_end && not (in_stack a)
may_vary _ = true

-- the first addresses of RAM are marked, up to a count, where a test is true
pub record AreMarkedWhere (test : ℕ → Bool) (known : List Bool) (count : ℕ) : Type 0 where
  pub size : length known ≡ count
  pub within : count ≤ ram_end
  pub marks : (a : ℕ) → a < count → is_set known a ≡ test a

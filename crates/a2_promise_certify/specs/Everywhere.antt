-- A promise that is kept in each state of its inputs is kept in every world. This project's own.
use Rattle.std.specs.Prelude.{◌≡◌, ℕ, ◌<◌, false, IsTrue, map}
use Rattle.a2_page.specs.Grid.{IsGrid}
use Rattle.a2_services.specs.World.{World}
use Rattle.a2_promise.specs.declared.promises.Promise.{Promise}
use Rattle.a2_footprint.specs.Counting.{states_of}
use Rattle.a2_footprint.specs.RotatedStack.{in_stack}
use Rattle.a2_promise_certify.specs.States.{Trial, Enters, known_bytes, known_parts, state_of, values_of, with_s}
use Rattle.a2_promise_certify.specs.Kept.{IsKept, IsRequired, Keeps, AreClausesKnown, known_by, moment}

-- whether the state meets the promise's requirements depends on nothing unknown, and if it meets them, the promise is
-- kept in it
pub record IsTried (trial : Trial) (promise : Promise) (limit : ℕ) (start : World) : Type 0 where
  pub looks : AreClausesKnown promise.wanted.items (known_by (known_bytes trial) (known_parts trial)) (known_by (known_bytes trial) (known_parts trial))
      (moment start start 0) (moment start start 0)
  pub kept : IsRequired promise start → IsKept (known_bytes trial) (known_parts trial) promise limit start

-- this holds for each state of the inputs; no input and no fixed byte is in the stack's page
pub record HoldsInEveryState (trial : Trial) (promise : Promise) (limit : ℕ) : Type 0 where
  pub pages : IsGrid trial.base.memory.page1 × IsGrid trial.base.memory.page2
  pub s : trial.base.registers.s < 256
  pub off_stack : (a : ℕ) → IsTrue (known_bytes trial a) → in_stack a ≡ false
  pub every : (number : ℕ) → number < states_of (map values_of trial.inputs) → IsTried trial promise limit (state_of trial number)

-- the promise is kept in every world at the entry that meets its requirements, wherever S points and whatever else
-- the world holds
abbrev pub PromisesHoldEverywhere : Type 0
PromisesHoldEverywhere =
    (trial : Trial) (promise : Promise) (limit : ℕ) → HoldsInEveryState trial promise limit
    → (s : ℕ) (world : World) → s < 256 → Enters (with_s s trial) world → IsRequired promise world → Keeps promise limit world

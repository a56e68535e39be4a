-- An example of a promise that is kept in every state: a routine that is only an RTS, of which nothing is said except
-- that everything else stays the same. This project's own.
use Rattle.std.specs.Prelude.{◌≡◌, ◌==◌, [], ◌∷◌}
use Rattle.a2_page.specs.Grid.{IsGrid}
use Rattle.a2_bus.specs.Memory.{Memory, ram_byte}
use Rattle.a2_effect.specs.Registers.{registers_at}
use Rattle.a2_promise.specs.declared.promises.Promise.{Promise}
use Rattle.a2_promise_certify.specs.declared.input.Input.TheVariants.{A}
use Rattle.a2_promise_certify.specs.Everywhere.{HoldsInEveryState}
use Rattle.a2_promise_certify.specs.States.{Trial}

abbrev pub returning : Memory → Trial
returning memory = record {
  base = record { registers = registers_at 0x300; memory = memory; cycles = 0 };
  inputs = A ∷ [];
  fixed = λ a. a == 0x300;
}

-- the promise is kept whatever else is in memory, and whatever A, X, Y and the flags are
abbrev pub AnRtsKeepsAll : Type 0
AnRtsKeepsAll =
    (memory : Memory) (promise : Promise) → IsGrid memory.page1 × IsGrid memory.page2 → ram_byte memory 0x300 ≡ 0x60
    → promise.wanted.items ≡ [] → promise.promised.items ≡ [] → HoldsInEveryState (returning memory) promise 1

-- Keys that are typed for a routine, and that it takes. This project's own.
use Rattle.std.specs.Prelude.{◌≡◌, ℕ, suc, List, [], map, Option}
use Rattle.std.specs.List.{concat}
use Rattle.a2_bus.specs.PowerOn.{start_memory}
use Rattle.a2_services.specs.World.{World}
use Rattle.a2_machine.specs.Meaning.{world_at}
use Rattle.a2_promise.specs.declared.promises.Promise.{Promise}
use Rattle.a2_promise_certify.specs.Entering.{laid}
use Rattle.a2_promise_certify.specs.Kept.{Keeps, code}
use Rattle.a2_promise_certify.specs.States.{Trial}

-- the keys that a promise says are taken: the characters of its texts, one text after another
abbrev pub keys_of : Promise → List ℕ
keys_of promise = concat (map (λ text. text.characters.items) promise.texts.takes.items)

-- the routine of a program entered as in `laid`, with exactly these keys waiting
abbrev pub laid_with_keys : (ℕ → Option ℕ) → ℕ → List ℕ → Trial
laid_with_keys program address keys =
    let trial = laid program address [] in
    record trial { base = record trial.base { memory = start_memory program keys } }

-- a promise is kept in a world within the limit, and all keys are taken: none is waiting after the routine returns
pub record KeepsWithKeys (promise : Promise) (limit : ℕ) (world : World) : Type 0 where
  pub keeps : Keeps promise limit world
  pub taken : (world_at code world (suc keeps.steps)).memory.devices.keys ≡ []

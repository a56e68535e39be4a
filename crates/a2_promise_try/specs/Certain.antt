-- The verdict on a promise: if it says that the promise holds everywhere, the promise is kept everywhere. It never
-- says so of a promise about printing or keys. This project's own.
use Rattle.std.specs.Prelude.{ℕ, Option, IsTrue}
use Rattle.a2_promise.specs.declared.promises.Promise.{Promise}
use Rattle.a2_promise_try.specs.declared.verdict.PromiseVerdict.{PromiseVerdict}
use Rattle.a2_promise_try.specs.declared.verdict.PromiseVerdict.TheVariants.{Held}
use Rattle.a2_promise_certify.specs.Entering.{IsKeptEverywhere}
use Rattle.a2_promise_try.specs.Printing.{HasNoText}

-- the most steps of a routine
abbrev pub most_steps : ℕ
most_steps = 1000000

abbrev pub IsCertain : (ℕ → Option ℕ) → Promise → ℕ → PromiseVerdict → Type 0
IsCertain program promise limit (Held held) =
    IsTrue held.is_everywhere → HasNoText promise.texts × IsKeptEverywhere program promise held.inputs.items limit
IsCertain program promise limit _ = Unit {0}

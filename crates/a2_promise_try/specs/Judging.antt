-- What the result for the promises of a text says together. This project's own.
use Rattle.std.specs.Prelude.{ℕ, ◌<◌, ◌||◌, IsTrue, IfSome}
use Rattle.a2_promise_try.specs.declared.judging.Judgement.{Judgement}

-- a state in which a promise fails comes from a promise that fails, and what fails or is refused is one of the promises
pub record IsSound (judgement : Judgement) : Type 0 where
  pub failed : IfSome judgement.first (λ _. IsTrue judgement.is_any_failed)
  pub counted : IsTrue (judgement.is_any_refused || judgement.is_any_failed) → 0 < judgement.promises

-- What a `Throttled` shows, and what one call of it does.
use Rattle.std.specs.Prelude.{◌≡◌, ℕ, ◌-◌, Result, Ok, IsErr}
use Rattle.a2_stream.specs.declared.throttled.Failing.{Failing}
use Rattle.a2_stream.specs.declared.throttled.Failing.TheVariants.{Refuses, TakesNothing}

-- the most bytes that go through in a call, how many more calls go through, and how later calls fail
pub record Throttle : Type 0 where
  pub per_call : ℕ
  pub calls : ℕ
  pub failing : Failing

-- the inner reader or writer, its limits, and the number of failed calls
pub record Throttling (T : Type 0) : Type 0 where
  pub inner : T
  pub throttle : Throttle
  pub failures : ℕ

-- the limits after a call: one call fewer goes through
abbrev pub after_call : Throttle → Throttle
after_call throttle = record throttle { calls = throttle.calls - 1 }

-- the result of a write after the calls that go through
abbrev pub FailsAs : {E : Type 0} → Failing → Result ℕ E → Type 0
FailsAs Refuses result = IsErr result
FailsAs TakesNothing result = result ≡ Ok 0

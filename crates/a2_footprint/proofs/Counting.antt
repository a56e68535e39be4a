-- Each state of inputs has a number below their product.
use Rattle.std.specs.Prelude.{◌≡◌, ◌<◌, ◌≤◌, ℕ, suc, ◌+◌, ◌*◌, [], ◌∷◌, refl}
use Rattle.std.proofs.Common.{ap, ap₂, ◌∙◌, arith}
use Rattle.std.proofs.Math.Nat.{suc-mul}
use Rattle.std.proofs.lemmas.Nat.{div-mul-add, mod-mul-add, mul-le}
use Rattle.a2_footprint.specs.Counting.{HasNumber, StatesAreCounted, state_at, states_of}

bound : (m s v b : ℕ) → m < s → b < v → m * v + b < s * v
bound m s v b lt less =
    let next : suc m ≤ s = omega (arith, lt) in
    let same : v ≤ v = omega arith in
    let step : suc m * v ≤ s * v = mul-le (suc m) v s v next same in
    let more : suc m * v ≡ m * v + v = suc-mul m v in
    omega (arith, step, more, less)

pub counted : StatesAreCounted
counted [] [] is = record { number = 0; below = omega arith; is = refl }
counted (values ∷ rest) (value ∷ state) is =
    let following : HasNumber rest state = counted rest state is.1 in
    record {
      number = following.number * values + value;
      below = bound following.number (states_of rest) values value following.below is.0;
      is = ap₂ (λ first others. first ∷ others) (mod-mul-add following.number values value is.0)
          (ap (λ number. state_at rest number) (div-mul-add following.number values value is.0) ∙ following.is);
    }
counted [] (value ∷ state) bad = absurd bad
counted (values ∷ rest) [] bad = absurd bad

-- A text has as many places as lines.
use Rattle.std.proofs.Common.{◌≡◌, ℕ, zero, suc, ◌+◌, List, [], ◌∷◌, length, refl, arith, length-append}
use Rattle.a2_expand.specs.Places.{own_places}
use Rattle.a2_expand.specs.declared.fault.Origin.{Origin}

pub places_counted : (n : ℕ) → length (own_places n) ≡ n
places_counted zero = refl
places_counted (suc n) = omega (arith, places_counted n, length-append (own_places n) (record { file = 0; line = n + 1; call = 0 } ∷ []))

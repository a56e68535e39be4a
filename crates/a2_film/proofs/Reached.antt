-- Addresses at which no service stores.
use Rattle.std.specs.Prelude.{◌≡◌, ℕ, ◌<◌, ◌≤◌, Bool, true, false, if◌then◌else◌, refl}
use Rattle.std.proofs.Common.{arith, true≢false}
use Rattle.std.proofs.lemmas.Bool.Decides.{nat_tests}
use Rattle.a2_services.specs.declared.rows.Service.{Service}
use Rattle.a2_services.specs.declared.rows.Reach.{Reach}
use Rattle.a2_services.specs.declared.rows.Reach.TheVariants as reaches
use Rattle.a2_services.specs.Rows.{service_row}
use Rattle.a2_services.specs.Services.{is_reached, reach}
use Rattle.a2_film.specs.Filmed.{low_end}

none-below : (r : Reach) (a : ℕ) → a < 0x24 → is_reached r a ≡ false
none-below reaches.Nowhere a low = refl
none-below reaches.Screen a low = grind (arith, nat_tests, low)
none-below reaches.ScreenAndLine a low = grind (arith, nat_tests, low)
none-below reaches.Mask a low = grind (arith, nat_tests, low)
none-below reaches.Base a low = grind (arith, nat_tests, low)
none-below reaches.Page a low = grind (arith, nat_tests, low)
none-below reaches.BaseAndPage a low = grind (arith, nat_tests, low)
none-below reaches.Color a low = grind (arith, nat_tests, low)
none-below reaches.Graphics a low = grind (arith, nat_tests, low)

none-above : (r : Reach) (a : ℕ) → 0x800 ≤ a → is_reached r a ≡ false
none-above reaches.Nowhere a high = refl
none-above reaches.Screen a high = grind (arith, nat_tests, high)
none-above reaches.ScreenAndLine a high = grind (arith, nat_tests, high)
none-above reaches.Mask a high = grind (arith, nat_tests, high)
none-above reaches.Base a high = grind (arith, nat_tests, high)
none-above reaches.Page a high = grind (arith, nat_tests, high)
none-above reaches.BaseAndPage a high = grind (arith, nat_tests, high)
none-above reaches.Color a high = grind (arith, nat_tests, high)
none-above reaches.Graphics a high = grind (arith, nat_tests, high)

-- no service stores between the line and page 1
none-between : (r : Reach) (a : ℕ) → 0x300 ≤ a → a < 0x400 → is_reached r a ≡ false
none-between reaches.Nowhere a high low = refl
none-between reaches.Screen a high low = grind (arith, nat_tests, high, low)
none-between reaches.ScreenAndLine a high low = grind (arith, nat_tests, high, low)
none-between reaches.Mask a high low = grind (arith, nat_tests, high, low)
none-between reaches.Base a high low = grind (arith, nat_tests, high, low)
none-between reaches.Page a high low = grind (arith, nat_tests, high, low)
none-between reaches.BaseAndPage a high low = grind (arith, nat_tests, high, low)
none-between reaches.Color a high low = grind (arith, nat_tests, high, low)
none-between reaches.Graphics a high low = grind (arith, nat_tests, high, low)

-- nor from the mask on, if it does not reach the line
none-following : (r : Reach) (a : ℕ) → is_reached r 0x2FF ≡ false → 0x33 ≤ a → a < 0x400 → is_reached r a ≡ false
none-following reaches.Nowhere a off high low = refl
none-following reaches.Screen a off high low = grind (arith, nat_tests, high, low)
none-following reaches.ScreenAndLine a off high low = absurd (true≢false off)
none-following reaches.Mask a off high low = grind (arith, nat_tests, high, low)
none-following reaches.Base a off high low = grind (arith, nat_tests, high, low)
none-following reaches.Page a off high low = grind (arith, nat_tests, high, low)
none-following reaches.BaseAndPage a off high low = grind (arith, nat_tests, high, low)
none-following reaches.Color a off high low = grind (arith, nat_tests, high, low)
none-following reaches.Graphics a off high low = grind (arith, nat_tests, high, low)

pub reach-below : (service : Service) (a : ℕ) → a < 0x24 → reach service a ≡ false
unfolding reach
reach-below service a low = none-below (service_row service).reach a low

pub reach-above : (service : Service) (a : ℕ) → 0x800 ≤ a → reach service a ≡ false
unfolding reach
reach-above service a high = none-above (service_row service).reach a high

pub reach-between : (service : Service) (a : ℕ) → low_end service ≤ a → a < 0x400 → reach service a ≡ false
unfolding reach
reach-between service a high low = go (reach service 0x2FF) refl high
  where
    go : (v : Bool) → reach service 0x2FF ≡ v → (if v then 0x300 else 0x33) ≤ a → reach service a ≡ false
    go true is high = none-between (service_row service).reach a high low
    go false is high = none-following (service_row service).reach a is high low

-- where the bytes below page 1 end
pub low_end-least : (service : Service) → 0x24 ≤ low_end service
low_end-least service = go (reach service 0x2FF)
  where
    go : (v : Bool) → 0x24 ≤ (if v then 0x300 else 0x33)
    go true = omega arith
    go false = omega arith

pub low_end-most : (service : Service) → low_end service ≤ 0x300
low_end-most service = go (reach service 0x2FF)
  where
    go : (v : Bool) → (if v then 0x300 else 0x33) ≤ 0x300
    go true = omega arith
    go false = omega arith

-- Laying bytes into an image. This project's profile: no byte replaces another one.
use Rattle.std.specs.Prelude.{ℕ, ◌+◌, nat_lt, List, [], ◌∷◌, Option, is_some, Result, Ok, Err, if◌then◌else◌}
use Rattle.a2_hex.specs.Images.{put, ram_end}
use Rattle.a2_formats.specs.declared.fault.Flaw.TheVariants.{Outside, Overlap}
use Rattle.a2_formats.specs.declared.fault.FormatFault.{FormatFault}
use Rattle.a2_formats.specs.declared.fault.FormatFault.TheVariants.{At}

-- the map with a byte at an address, or what is wrong at this line or offset
abbrev pub laid_byte : ℕ → (ℕ → Option ℕ) → ℕ → ℕ → Result (ℕ → Option ℕ) FormatFault
laid_byte place image at byte =
    if nat_lt at ram_end then (if is_some (image at) then Err (At place Overlap) else Ok (put image at byte)) else Err (At place Outside)

-- the second step, if the first one succeeded
infixl 10 ◌>>=◌
abbrev pub ◌>>=◌ : {A B : Type 0} → Result A FormatFault → (A → Result B FormatFault) → Result B FormatFault
Ok x >>= f = f x
Err fault >>= f = Err fault

-- the map with these bytes from an address upwards, or the first error
unfoldable pub laid : ℕ → (ℕ → Option ℕ) → ℕ → List ℕ → Result (ℕ → Option ℕ) FormatFault
laid place image at [] = Ok image
laid place image at (byte ∷ bytes) = laid_byte place image at byte >>= (λ after. laid place after (at + 1) bytes)

-- Registers that no step uses or sets. This project's own.
use Rattle.std.specs.Prelude.{◌≡◌, ℕ, Bool, true, false, not, IsTrue}
use Rattle.a2_services.specs.World.{World}
use Rattle.a2_machine.specs.Meaning.{Code, world_at}
use Rattle.a2_footprint.specs.declared.Part.{Part}
use Rattle.a2_footprint.specs.declared.Part.TheVariants.{A as part_a, X as part_x, Y as part_y}
use Rattle.a2_footprint.specs.Reads.{AgreeOn}
use Rattle.a2_footprint.specs.Parts.{held}
use Rattle.a2_footprint.specs.Runs.{RunReads}
use Rattle.a2_footprint.specs.Uses.{Near, RunNeeds, parts_known_after}

-- a part is A, X or Y
abbrev pub is_register : Part → Bool
is_register part_a = true
is_register part_x = true
is_register part_y = true
is_register _ = false

-- Steps are taken from two worlds, and those from the first use nothing unknown. A register that is not known after
-- them is one that no step uses or sets. In the second world it is unchanged.
abbrev pub UnknownRegistersStay : Type 0
UnknownRegistersStay =
    (code : Code) (parts : Part → Bool) (bytes : ℕ → Bool) (s t : World) (n : ℕ) → Near parts (AgreeOn bytes) s t
    → RunReads code bytes s n → RunNeeds code parts s n
    → (part : Part) → IsTrue (is_register part) → IsTrue (not (parts_known_after code parts s n part))
    → held part (world_at code t n).registers ≡ held part t.registers

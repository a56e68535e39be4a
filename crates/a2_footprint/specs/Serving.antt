-- A service depends only on what it reads and uses, and changes only the bytes it stores and the parts it sets. This
-- project's own.
use Rattle.std.specs.Prelude.{◌≡◌, ℕ, Bool, true, false}
use Rattle.std.specs.List.{list_any}
use Rattle.a2_page.specs.Grid.{IsGrid}
use Rattle.a2_bus.specs.Memory.{ram_byte}
use Rattle.a2_cpu.specs.Stores.{IsNotIn}
use Rattle.a2_services.specs.declared.rows.Service.{Service}
use Rattle.a2_services.specs.Services.{fits, served}
use Rattle.a2_services.specs.World.{World}
use Rattle.a2_footprint.specs.declared.Part.{Part}
use Rattle.a2_footprint.specs.Reads.{AgreeOn, Knows, with_bytes}
use Rattle.a2_footprint.specs.Parts.{held, is_part, with_parts}
use Rattle.a2_footprint.specs.Services.{is_keyless, service_needs, service_sets, service_reads, service_stores}
use Rattle.a2_footprint.specs.Uses.{Near}

-- Two worlds agree in everything that a service uses. If it fits in the first (its window, cursor and block are valid),
-- it fits in the second. After it the worlds also agree in what it stored and set, and it stores at the same addresses
-- in both.
abbrev pub ServicesDependOnUses : Type 0
ServicesDependOnUses =
    (service : Service) (parts : Part → Bool) (bytes : ℕ → Bool) (s t : World) → Near parts (AgreeOn bytes) s t
    → is_keyless service ≡ true → fits service s.registers s.memory ≡ true
    → Knows parts (service_needs service) → Knows bytes (service_reads service s)
    → (fits service t.registers t.memory ≡ true)
    × Near (with_parts (service_sets service) parts) (AgreeOn (with_bytes (service_stores service s) bytes)) (served service s) (served service t)
    × (service_stores service s ≡ service_stores service t)

-- A service that fits changes only the bytes at which it stores and the registers and flags that it sets.
abbrev pub ServicesKeepTheRest : Type 0
ServicesKeepTheRest =
    (service : Service) (world : World) → is_keyless service ≡ true → fits service world.registers world.memory ≡ true
    → IsGrid world.memory.page1 × IsGrid world.memory.page2
    → ((b : ℕ) → IsNotIn b (service_stores service world) → ram_byte (served service world).memory b ≡ ram_byte world.memory b)
    × ((part : Part) → list_any (is_part part) (service_sets service) ≡ false
    → held part (served service world).registers ≡ held part world.registers)

-- What a call leaves unchanged.
use Rattle.std.specs.Prelude.{◌≡◌, ℕ, ◌+◌, ◌≤◌, length}
use Rattle.std.proofs.Common.{sym, ap, ◌∙◌, arith}
use Rattle.a2_bus.specs.BusState.{BusState}
use Rattle.a2_bus.specs.Memory.{ram_byte, ram_end}
use Rattle.a2_bus.proofs.Viewing.{byte_seen, devices_seen}
use Rattle.a2_bus.specs.Devices.{Devices}
use Rattle.a2_effect.specs.Registers.{Registers}
use Rattle.a2_services.specs.declared.rows.Service.{Service}
use Rattle.a2_services.specs.World.{World, world_of}
use Rattle.a2_services.specs.Services.{served}
use Rattle.a2_services.specs.Called.{KeepsUnreachedBytes}
use Rattle.a2_services.proofs.Effects.{served-kept, served_fewer}

-- bytes outside the service's reach
pub unreached_by : (service : Service) (registers : Registers) (bus : BusState) (new_registers : Registers) (new_bus : BusState) (cycles : ℕ)
    → length bus.bytes ≡ ram_end → length new_bus.bytes ≡ ram_end
    → world_of new_registers new_bus (0 + cycles) ≡ served service (world_of registers bus 0) → KeepsUnreachedBytes service bus new_bus
unreached_by service registers bus new_registers new_bus cycles size new_size made =
    λ a low out.
    byte_seen new_bus a new_size low
    ∙ ap (λ (w : World). ram_byte w.memory a) made
    ∙ served-kept service (world_of registers bus 0) a out
    ∙ sym (byte_seen bus a size low)

-- and no key is added
pub fewer_by : (service : Service) (registers : Registers) (bus : BusState) (new_registers : Registers) (new_bus : BusState) (cycles : ℕ)
    → world_of new_registers new_bus (0 + cycles) ≡ served service (world_of registers bus 0) → length new_bus.devices.keys ≤ length bus.devices.keys
fewer_by service registers bus new_registers new_bus cycles made =
    omega (
      arith,
      ap (λ (w : World). length w.memory.devices.keys) made,
      served_fewer service (world_of registers bus 0),
      ap (λ (d : Devices). length d.keys) (devices_seen bus),
      ap (λ (d : Devices). length d.keys) (devices_seen new_bus),
    )

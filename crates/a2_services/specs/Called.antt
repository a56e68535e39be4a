-- The result and the effect of a call.
use Rattle.std.specs.Prelude.{◌≡◌, ℕ, ◌+◌, ◌<◌, Bool, true, false, not, if◌then◌else◌, Option, Some, None, length, slice_index}
use Rattle.a2_bus.specs.BusState.{BusState}
use Rattle.a2_bus.specs.Memory.{Memory, ram_end}
use Rattle.a2_bus.specs.View.{memory_of}
use Rattle.a2_effect.specs.declared.live.Live.{Live}
use Rattle.a2_effect.specs.Live.{live_registers}
use Rattle.a2_effect.specs.Registers.{Registers}
use Rattle.a2_services.specs.declared.rows.Service.{Service}
use Rattle.a2_services.specs.declared.Served.{Served}
use Rattle.a2_services.specs.declared.Served.TheVariants as answer
use Rattle.a2_services.specs.Services.{fits, lacks_keys, effect, served, reach}
use Rattle.a2_services.specs.World.{world_of}

-- the answer of a call that is not executed: Window if window, cursor or blocks do not fit, otherwise Keys if keys are missing
abbrev pub refused : Bool → Bool → Option Served
refused fitting lacking = if not fitting then Some answer.Window else if lacking then Some answer.Keys else None

abbrev pub service_unmet_need : Service → Registers → Memory → Option Served
service_unmet_need service registers memory = refused (fits service registers memory) (lacks_keys service memory)

-- the new registers and board are what the service leaves, apart from the cycles
abbrev pub IsLeft : Service → Registers → BusState → Registers → BusState → Type 0
IsLeft service registers bus new_registers new_bus =
    (cycles : ℕ) → world_of new_registers new_bus cycles ≡ effect service (world_of registers bus cycles)

-- the service had its effect, no cycle is counted, and RAM has its full size
pub record IsDone (service : Service) (live : Live) (bus : BusState) (new_live : Live) (new_bus : BusState) : Type 0 where
  pub left : IsLeft service (live_registers live) bus (live_registers new_live) new_bus
  pub cycles : new_live.cycles ≡ live.cycles
  pub size : length new_bus.bytes ≡ ram_end

-- the new registers and board are what the service leaves, after this many cycles
abbrev pub IsServed : Service → Registers → BusState → Registers → BusState → ℕ → Type 0
IsServed service registers bus new_registers new_bus cycles =
    (before : ℕ) → world_of new_registers new_bus (before + cycles) ≡ served service (world_of registers bus before)

-- nothing was missing, and the call was executed
pub record IsCallExecuted (service : Service) (registers : Registers) (bus : BusState) (new_registers : Registers) (new_bus : BusState)
    (cycles : ℕ) : Type 0 where
  pub fitting : fits service registers (memory_of bus) ≡ true
  pub keyed : lacks_keys service (memory_of bus) ≡ false
  pub served : IsServed service registers bus new_registers new_bus cycles

-- nothing changed
pub record IsSame (registers : Registers) (bus : BusState) (new_registers : Registers) (new_bus : BusState) : Type 0 where
  pub same_registers : new_registers ≡ registers
  pub same_bus : new_bus ≡ bus

-- the answer is Window exactly if window, cursor or blocks do not fit, and Keys exactly if they fit and keys are missing; in
-- both cases nothing changed; otherwise the call was executed
abbrev pub IsCalled : Service → Registers → BusState → Registers → BusState → Served → Type 0
IsCalled service registers bus new_registers new_bus (answer.Next cycles) = IsCallExecuted service registers bus new_registers new_bus cycles
IsCalled service registers bus new_registers new_bus answer.Window =
    (fits service registers (memory_of bus) ≡ false) × IsSame registers bus new_registers new_bus
IsCalled service registers bus new_registers new_bus answer.Keys =
    (fits service registers (memory_of bus) ≡ true) × (lacks_keys service (memory_of bus) ≡ true)
    × IsSame registers bus new_registers new_bus

-- a fact that holds if the call was executed, and one that holds if it was not
abbrev pub OnServed : Served → Type 0 → Type 0
OnServed (answer.Next cycles) fact = fact
OnServed answer.Window fact = Unit {0}
OnServed answer.Keys fact = Unit {0}

abbrev pub OnUnserved : Served → Type 0 → Type 0
OnUnserved (answer.Next cycles) fact = Unit {0}
OnUnserved answer.Window fact = fact
OnUnserved answer.Keys fact = fact

-- every byte of RAM outside the service's reach is unchanged
abbrev pub KeepsUnreachedBytes : Service → BusState → BusState → Type 0
KeepsUnreachedBytes service bus new_bus =
    (address : ℕ) → address < ram_end → reach service address ≡ false → slice_index new_bus.bytes address ≡ slice_index bus.bytes address

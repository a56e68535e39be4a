-- A service that had its effect was called.
use Rattle.std.specs.Prelude.{◌≡◌, ℕ, ◌+◌, true, false}
use Rattle.std.proofs.Common.{sym, ap, ◌∙◌}
use Rattle.a2_bus.specs.BusState.{BusState}
use Rattle.a2_bus.specs.View.{memory_of}
use Rattle.a2_effect.specs.Live.{live_registers}
use Rattle.a2_effect.specs.declared.live.Live.{Live}
use Rattle.a2_services.specs.declared.rows.Service.{Service}
use Rattle.a2_services.specs.Rows.{service_row}
use Rattle.a2_services.specs.World.{World, world_of}
use Rattle.a2_services.specs.Services.{fits, lacks_keys, cycles_of, effect, served}
use Rattle.a2_services.specs.Called.{IsCallExecuted, IsDone}

pub call_made : (service : Service) (live new_live : Live) (bus new_bus : BusState) (cycles : ℕ)
    → fits service (live_registers live) (memory_of bus) ≡ true → lacks_keys service (memory_of bus) ≡ false
    → cycles_of (service_row service).takes (live_registers live) ≡ cycles → IsDone service live bus new_live new_bus
    → IsCallExecuted service (live_registers live) bus (live_registers new_live) new_bus cycles
unfolding served
call_made service live new_live bus new_bus cycles fitting keyed takes done = record {
  fitting = fitting;
  keyed = keyed;
  served = λ before.
      ap (λ (world : World). record world { cycles = before + cycles }) (done.left before)
      ∙ ap (λ (taken : ℕ). record (effect service (world_of (live_registers live) bus before)) { cycles = before + taken }) (sym takes);
}

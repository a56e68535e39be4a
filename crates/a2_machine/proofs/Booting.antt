-- A machine that was booted and had keys typed is in its initial state.
use Rattle.std.specs.Prelude.{◌≡◌, ◌↔◌, ℕ, ◌+◌, ◌<◌, ◌≤◌, List, [], length, Option, Result, Ok, Err, IsOk, OnOk, true, false}
use Rattle.std.proofs.Common.{ap, arith}
use Rattle.std.proofs.lemmas.List.{get_or-replicate}
use Rattle.a2_page.specs.Kept.{KeptPicture, is_row_marked, after_switch}
use Rattle.a2_bus.specs.Devices.{keys_typed}
use Rattle.a2_bus.specs.PowerOn.{start_memory}
use Rattle.a2_bus.specs.View.{memory_of}
use Rattle.a2_bus.proofs.Starting.{start_typed}
use Rattle.a2_machine.specs.Start.{start_world}
use Rattle.a2_machine.specs.State.{MachineState, Device, world_of_state}

none_wait : (state : MachineState) (image : ℕ → Option ℕ) (entry : ℕ) → world_of_state state ≡ start_world image entry [] → length state.bus.devices.keys ≡ 0
unfolding memory_of start_memory
none_wait state image entry e = ap (λ w. length w.memory.devices.keys) e

-- after the keys are typed, the machine is in its initial state
pub typed_start : {T E : Type 0} (image : ℕ → Option ℕ) (entry : ℕ) (keys : List ℕ) (old new : Device) (result : Result T E)
    → world_of_state old.state ≡ start_world image entry []
    → (IsOk result ↔ (length old.state.bus.devices.keys + length keys ≤ 4096))
    → OnOk result (new ≡ (let s = old.state in let b = s.bus in record old { state = record s { bus = record b { devices = keys_typed b.devices keys } } }))
    → length keys ≤ 4096 → world_of_state new.state ≡ start_world image entry keys
typed_start image entry keys old new (Err _) world room typed few = cc (room.1 (omega (arith, few, none_wait old.state image entry world)))
typed_start image entry keys old new (Ok _) world room typed few =
    grind (arith, typed, world, start_typed old.state.bus image keys (ap (λ w. w.memory) world))

pub switched_marked : (kept : KeptPicture) (row : ℕ) → row < 24 → is_row_marked (after_switch kept) row ≡ true
switched_marked kept row row_ok = get_or-replicate 24 row true false row_ok

-- A single name that unfolds every definition needed to compute a step: under `unfolding computing`, a part of a run whose
-- addresses are known is one `refl`.
use Rattle.std.specs.Prelude.{◌≡◌, Some}
use Rattle.std.proofs.Common.{arith}
use Rattle.a2_opcode.specs.Table.{table, row}
use Rattle.a2_page.specs.Cells.{cell_at}
use Rattle.a2_bus.specs.Memory.{ram_byte, with_ram, memory_access}
use Rattle.a2_cpu.specs.BusStep.{refusal_of}
use Rattle.a2_effect.specs.Effect.{effect_of}
use Rattle.a2_effect.specs.Instruction.{performed, after_effect, returned, called}
use Rattle.a2_cpu.specs.Stores.{stores_of}
use Rattle.a2_services.specs.World.{World}
use Rattle.a2_services.specs.Services.{service_at, reach, effect, served}
use Rattle.a2_machine.specs.declared.causes.Cause.TheVariants.{Returned}
use Rattle.a2_machine.specs.Meaning.{Code, stuck, next, stuck_at, next_at, statements}
use Rattle.a2_machine.proofs.Walks.{walked}

unfoldable pub computing : Type 1
unfolding walked next next_at stuck stuck_at statements row table service_at refusal_of stores_of performed after_effect returned called effect_of memory_access ram_byte with_ram cell_at reach effect served
computing = Type 0

-- at the address to which the last RTS returns, a run returns
pub returns_there : (code : Code) (w : World) → w.registers.pc ≡ 0xFF69 → stuck code w ≡ Some Returned
unfolding stuck stuck_at
returns_there code w at = grind (arith, at)

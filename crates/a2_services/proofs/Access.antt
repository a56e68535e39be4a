-- Accesses of a board, as changes of the memory it holds.
use Rattle.std.specs.Prelude.{◌≡◌, ℕ, ◌<◌, length, slice_get, unwrap_or}
use Rattle.std.proofs.Common.{ap, ◌∙◌, arith}
use Rattle.std.proofs.lemmas.Option.{unwrap_or-slice_get}
use Rattle.a2_bus.specs.BusState.{BusState, board_access}
use Rattle.a2_bus.specs.Lawful.{board_lawful}
use Rattle.a2_bus.specs.Memory.{ram_byte, with_ram, ram_end}
use Rattle.a2_bus.specs.View.{memory_of}
use Rattle.a2_bus.proofs.Viewing.{byte_seen, store_seen}

-- the byte that a read of RAM gives
pub looked_at : (bus : BusState) (a : ℕ) → length bus.bytes ≡ ram_end → a < ram_end
    → unwrap_or (slice_get bus.bytes a) 0 ≡ ram_byte (memory_of bus) a
looked_at bus a size low = unwrap_or-slice_get bus.bytes a 0 ∙ byte_seen bus a size low

-- the memory after a write to RAM
pub written_to : (bus : BusState) (a byte : ℕ) → length bus.bytes ≡ ram_end → a < ram_end
    → memory_of (board_access.after_write bus a byte) ≡ with_ram (memory_of bus) a byte
written_to bus a byte size low =
    ap memory_of (board_lawful.ram_write bus a byte (omega (arith, size, low))) ∙ store_seen bus a byte size low

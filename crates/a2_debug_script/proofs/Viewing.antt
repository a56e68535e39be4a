-- The page bytes that a machine shows are those of its memory.
use Rattle.std.specs.Prelude.{slice_index}
use Rattle.std.proofs.Common.{◌≡◌, ℕ, ◌+◌, ◌<◌, take, drop, sym, ◌∙◌}
use Rattle.std.proofs.lemmas.List.{get_or-take, get_or-drop}
use Rattle.a2_bus.specs.BusState.{BusState}
use Rattle.a2_bus.specs.Memory.{ram_byte}
use Rattle.a2_bus.specs.View.{memory_of}
use Rattle.a2_bus.proofs.FirstBytes.{ram_byte-from}

pub byte_shown : (bus : BusState) (from a : ℕ) → a < 1024
    → ram_byte (memory_of bus) (from + a) ≡ slice_index (take 1024 (drop from bus.bytes)) a
unfolding memory_of
byte_shown bus from a low =
    ram_byte-from (slice_index bus.bytes) bus.devices (from + a)
    ∙ sym (get_or-take 1024 (drop from bus.bytes) a 0 low ∙ get_or-drop from bus.bytes a 0)

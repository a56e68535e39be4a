-- Laws about the meaning of lines.
use Rattle.std.specs.Prelude.{◌≡◌, ◌⊎◌, ℕ, ◌+◌, ◌<◌, ◌≤◌, List, length, slice_index, None}
use Rattle.a2_bus.specs.BusState.{BusState}
use Rattle.a2_bus.specs.Memory.{Memory, ram_byte, ram_end}
use Rattle.a2_bus.specs.View.{memory_of}
use Rattle.a2_monitor.specs.declared.parsing.Range.{Range}
use Rattle.a2_monitor.specs.Replies.{IsReply}
use Rattle.a2_monitor.specs.SessionStates.{SessionState, range_error, size_of, source_of, with_stored_bytes, moved}

-- each line has a reply
abbrev pub EachLineHasReply : Type 0
EachLineHasReply = (line : List ℕ) (old : SessionState) → (text : List ℕ) × (new : SessionState) × IsReply line old text new

-- each line has only one reply, and leaves only one session state
abbrev pub OneReply : Type 0
OneReply =
    (line : List ℕ) (old new other : SessionState) (text words : List ℕ)
    → IsReply line old text new → IsReply line old words other → (text ≡ words) × (new ≡ other)

-- after bytes are stored in RAM, each of them is at its address
abbrev pub StoresEachByte : Type 0
StoresEachByte =
    (bus : BusState) (at i : ℕ) (bytes : List ℕ) → length bus.bytes ≡ ram_end → at + length bytes ≤ ram_end → i < length bytes
    → ram_byte (with_stored_bytes (memory_of bus) at bytes) (at + i) ≡ slice_index bytes i

-- storing leaves every other byte unchanged
abbrev pub StoresNoOther : Type 0
StoresNoOther =
    (memory : Memory) (at other : ℕ) (bytes : List ℕ) → (other < at) ⊎ (at + length bytes ≤ other)
    → ram_byte (with_stored_bytes memory at bytes) other ≡ ram_byte memory other

-- after a range is moved, each byte of the destination is the byte that was at its source
abbrev pub MovesEachByte : Type 0
MovesEachByte =
    (bus : BusState) (range : Range) (to i : ℕ) → length bus.bytes ≡ ram_end → range_error range to ≡ None → i < size_of range
    → ram_byte (moved (memory_of bus) range to) (to + i) ≡ ram_byte (memory_of bus) (source_of range to i)

-- moving leaves every other byte unchanged
abbrev pub MovesNoOther : Type 0
MovesNoOther =
    (memory : Memory) (range : Range) (to other : ℕ) → (other < to) ⊎ (to + size_of range ≤ other)
    → ram_byte (moved memory range to) other ≡ ram_byte memory other

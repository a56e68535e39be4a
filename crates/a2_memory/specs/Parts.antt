-- Parts of RAM as they are shown. This project's profile.
use Rattle.std.specs.Prelude.{ℕ, nat_lt, nat_le, ◌&&◌, List, Option, Some, None, if◌then◌else◌}
use Rattle.std.specs.List.{flat_map}
use Rattle.a2_bus.specs.Memory.{Memory, ram_end}
use Rattle.a2_symbols.specs.declared.places.Span.{Span}
use Rattle.a2_monitor.specs.SessionStates.{examined}
use Rattle.a2_memory.specs.declared.part.Part.{Part}

-- the first and the last address of a part
abbrev pub bounds_of : Part → ℕ × ℕ
bounds_of part = (part.first, part.last)

-- the same for a span, if it does not go backwards and is entirely in RAM
abbrev pub bounds_in : Span → Option (ℕ × ℕ)
bounds_in span = if nat_le span.first span.last && nat_lt span.last ram_end then Some (span.first, span.last) else None

-- what the Monitor shows of a part
unfoldable pub shown_part : Memory → Part → List ℕ
shown_part memory part = examined memory (record { first = part.first; last = part.last })

-- the same for each part, one after another
abbrev pub shown_parts : Memory → List Part → List ℕ
shown_parts memory parts = flat_map (shown_part memory) parts

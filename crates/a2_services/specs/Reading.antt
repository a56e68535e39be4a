-- Definitions for a line that is being read.
use Rattle.std.specs.Prelude.{ℕ, ◌+◌, List, [], ◌∷◌, Option, Some, None}
use Rattle.a2_bus.specs.Memory.{Memory, with_ram}
use Rattle.a2_services.specs.Services.{Reading, line_buffer, line_read, with_key_taken}

abbrev pub reading : Memory → ℕ → Reading
reading memory len = record { memory = memory; len = len }

abbrev pub first_of : List ℕ → Option ℕ
first_of [] = None
first_of (key ∷ keys) = Some key

-- the line that the waiting keys produce
abbrev pub rest_of : Memory → ℕ → Reading
rest_of memory len = line_read memory.devices.keys (reading memory len)

-- the memory after a key is taken and a byte is stored in the line
abbrev pub kept : Memory → ℕ → ℕ → Memory
kept memory len byte = with_ram (with_key_taken memory) (line_buffer + len) byte

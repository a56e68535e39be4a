-- The bytes of RAM that a trace reads. This project's profile.
use Rattle.std.specs.Prelude.{ℕ, ◌+◌, ◌%◌, List, [], ◌∷◌, unwrap_or}
use Rattle.a2_bus.specs.Memory.{Memory, peek}

-- the byte of RAM at an address modulo 65,536; 0 if there is none
abbrev pub byte_at : Memory → ℕ → ℕ
byte_at memory a = unwrap_or (peek memory (a % 65536)) 0

-- the bytes of the longest instruction at an address
abbrev pub bytes_at : Memory → ℕ → List ℕ
bytes_at memory a = byte_at memory a ∷ byte_at memory (a + 1) ∷ byte_at memory (a + 2) ∷ []

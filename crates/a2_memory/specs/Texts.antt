-- What is written of a machine's memory. This project's profile.
use Rattle.std.specs.Prelude.{ℕ, List}
use Rattle.a2_bus.specs.Memory.{Memory, peek}
use Rattle.a2_hex.specs.ObjectText.{object_text}

-- all of RAM as object code lines
abbrev pub ram_lines : Memory → List ℕ
ram_lines memory = object_text (peek memory)

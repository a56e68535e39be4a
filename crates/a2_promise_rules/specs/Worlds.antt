-- Worlds of bytes. This project's own.
use Rattle.std.specs.Prelude.{◌<◌}
use Rattle.a2_services.specs.World.{World}
use Rattle.a2_theorems.specs.Routines.{HasBytes}

-- registers and RAM hold bytes
pub record OnlyBytes (w : World) : Type 0 where
  pub a : w.registers.a < 256
  pub x : w.registers.x < 256
  pub y : w.registers.y < 256
  pub ram : HasBytes w.memory

-- What a run left, written to a file. This project's profile.
use Rattle.std.specs.Prelude.{◌≡◌, ℕ, List, IfSome, Result, Ok, Err}
use Rattle.a2_bus.specs.Memory.{Memory}
use Rattle.a2_host.specs.Desks.{Files, Saves}
use Rattle.a2_run.specs.declared.fault.RunFault.{RunFault}
use Rattle.a2_memory.specs.Texts.{ram_lines}
use Rattle.a2_bus.specs.BusState.{BusState}
use Rattle.a2_picture.specs.Png.{png}

-- If the contents of the files are known: the file of this name is the object lines of all of RAM, and no other file changed. If the
-- call failed no file changed.
abbrev pub SavesMemory : Memory → List ℕ → Files → Files → Result (Unit {0}) RunFault → Type 0
SavesMemory memory image old new (Ok _) = IfSome old (λ _. Saves image (ram_lines memory) old new)
SavesMemory memory image old new (Err _) = new ≡ old

-- the same for what the screen shows: the file is its picture
abbrev pub SavesPicture : BusState → List ℕ → Files → Files → Result (Unit {0}) RunFault → Type 0
SavesPicture bus picture old new (Ok _) = IfSome old (λ _. Saves picture (png bus.bytes bus.devices.switches) old new)
SavesPicture bus picture old new (Err _) = new ≡ old

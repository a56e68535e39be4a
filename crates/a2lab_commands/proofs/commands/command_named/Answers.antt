use Rattle.std.proofs.Common.{sym}
use Rattle.std.proofs.lemmas.Slice.Eq.{bytes_eq-Decides}
use Rattle.a2lab_commands.proofs.commands.command_named.Goals as goal

pub returns-then-eq : goal.returns-then-eq
returns-then-eq c = (bytes_eq-Decides _ _).0 (sym c.if-eq.ensures)

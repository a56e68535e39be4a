use Rattle.std.proofs.Common.{◌≤◌, length}
use Rattle.a2_tty.proofs.line_editor.typist.typed_key.Given as goal

abbrev pub invariant-loop : goal.invariant-loop
invariant-loop g l = length l.given.items ≤ l.counter

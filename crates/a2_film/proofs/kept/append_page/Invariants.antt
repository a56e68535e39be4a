use Rattle.std.proofs.Common.{◌+◌, ◌*◌, ◌≤◌, length}
use Rattle.a2_bus.specs.Memory.{ram_byte}
use Rattle.a2_bus.specs.View.{memory_of}
use Rattle.a2_film.specs.Changes.{differing}
use Rattle.a2_film.specs.Filmed.{from_address, Appends}
use Rattle.a2_film.proofs.kept.append_page.Given as goal

-- the stores of the pieces so far are appended to the row
abbrev pub invariant-loop-piece : goal.invariant-loop-piece
invariant-loop-piece g l = record {
  stores : Appends l.fn.rows.items l.next
      (differing (from_address 0x400 l.old) (ram_byte (memory_of l.machine.state.bus)) 0x400 (l.piece * 64)) l.rows.items l.last;
  room : length l.rows.items ≤ length l.fn.rows.items + 7 * (l.piece * 64);
}

use Rattle.std.proofs.Common.{◌+◌, ◌-◌, ◌*◌, ◌≤◌, length}
use Rattle.a2_bus.specs.Memory.{ram_byte}
use Rattle.a2_bus.specs.View.{memory_of}
use Rattle.a2_film.specs.Changes.{differing}
use Rattle.a2_film.specs.Filmed.{from_address, Appends}
use Rattle.a2_film.proofs.rows.append_others.Given as goal

-- the stores below an address are appended to the row
abbrev pub invariant-loop-address : goal.invariant-loop-address
invariant-loop-address g l = record {
  from : l.first ≤ l.address;
  stores : Appends l.fn.rows.items l.next
      (differing (from_address l.first l.old) (ram_byte (memory_of l.machine.state.bus)) l.first (l.address - l.first))
      l.rows.items l.last;
  room : length l.rows.items ≤ length l.fn.rows.items + 7 * (l.address - l.first);
}

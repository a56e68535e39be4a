use Rattle.std.proofs.Common.{◌+◌, ◌*◌, ◌≤◌, length, take}
use Rattle.a2_bus.specs.Memory.{ram_byte}
use Rattle.a2_bus.specs.View.{memory_of}
use Rattle.a2_film.specs.Changes.{bytes_at}
use Rattle.a2_film.specs.Filmed.{Appends}
use Rattle.a2_film.specs.Rows.{no_address}
use Rattle.a2_film.proofs.rows.append_listed.Given as goal

-- the bytes at the addresses so far are appended to the row
abbrev pub invariant-loop-address : goal.invariant-loop-address
invariant-loop-address g l = record {
  stores : Appends l.fn.rows.items no_address
      (bytes_at (ram_byte (memory_of l.machine.state.bus)) (take l.address-index l.addresses)) l.rows.items l.next;
  room : length l.rows.items ≤ length l.fn.rows.items + 7 * l.address-index;
}

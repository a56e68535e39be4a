use Rattle.std.proofs.Common.{◌-◌, ◌*◌, slice_index}
use Rattle.a2_page.proofs.Sending.{IsLeft}
use Rattle.a2_bus.specs.Memory.{ram_byte, ram_end}
use Rattle.a2_bus.specs.View.{memory_of}
use Rattle.a2_film.specs.Changes.{differing}
use Rattle.a2_film.specs.Rows.{stores_text, no_address}
use Rattle.a2_film.proofs.head.put_differing.Given as goal

-- the pieces so far were written
abbrev pub invariant-loop-piece : goal.invariant-loop-piece
invariant-loop-piece g l =
    let old = slice_index l.old in
    let new = ram_byte (memory_of l.machine.state.bus) in
    IsLeft (g.W.Output.taker l.fn.writer) (g.W.Output.taker l.writer)
    (stores_text no_address (differing old new 0 ram_end))
    (stores_text l.next (differing old new (l.piece * 256) (ram_end - l.piece * 256)))

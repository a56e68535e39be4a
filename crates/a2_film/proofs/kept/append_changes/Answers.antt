use Rattle.std.proofs.Common.{◌-◌, slice_range}
use Rattle.a2_bus.specs.Memory.{ram_byte}
use Rattle.a2_bus.specs.View.{memory_of}
use Rattle.a2_film.specs.Changes.{differing}
use Rattle.a2_film.specs.Filmed.{from_address}
use Rattle.a2_film.specs.Rows.{no_address}
use Rattle.a2_film.proofs.Appending.{appends-more}
use Rattle.a2_film.proofs.kept.append_changes.Goals as goal

pub returns-clause-stores : goal.returns-clause-stores
returns-clause-stores g c =
    let new = ram_byte (memory_of c.args.machine.now.state.bus) in
    (appends-more c.args.rows.now.items c.append_others-next.new.rows.items c.append_page.new.rows.items no_address
    c.append_others-next.result c.append_page.result
    (differing (from_address 0x24 (slice_range c.args.ram.now 0x24 c.args.end)) new 0x24 (c.args.end - 0x24))
    (differing (from_address 0x400 c.args.page1.now) new 0x400 0x400)
    (rw (c.from.ensures, c.from-2.ensures) at c.append_others-next.ensures.stores) c.append_page.ensures.stores).0

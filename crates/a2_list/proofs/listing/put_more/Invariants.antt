use Rattle.std.proofs.Common.{◌-◌}
use Rattle.a2_page.proofs.Sending.{IsLeft}
use Rattle.a2_hex.specs.Images.{held}
use Rattle.a2_list.specs.Listing.{more_rows}
use Rattle.a2_list.proofs.listing.put_more.Given as goal

-- the rows so far were written
abbrev pub invariant-loop : goal.invariant-loop
invariant-loop g l =
    IsLeft (g.W.Output.taker l.fn.writer) (g.W.Output.taker l.writer)
    (more_rows (held l.image) l.address l.count l.rows) (more_rows (held l.image) l.at l.left (l.rows - l.counter))

use Rattle.std.proofs.Common.{drop}
use Rattle.a2_page.proofs.Sending.{IsLeft}
use Rattle.a2_asm.specs.Entries.{entries}
use Rattle.a2_list.specs.Listing.{name_rows}
use Rattle.a2_list.proofs.listing.put_names.Given as goal

-- the rows of the names so far were written
abbrev pub invariant-loop-index : goal.invariant-loop-index
invariant-loop-index g l =
    IsLeft (g.W.Output.taker l.fn.writer) (g.W.Output.taker l.writer) (name_rows (entries l.names)) (name_rows (drop l.index (entries l.names)))

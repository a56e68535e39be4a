use Rattle.std.proofs.Common.{drop}
use Rattle.std.specs.List.{flat_map}
use Rattle.a2_page.proofs.Sending.{IsLeft}
use Rattle.a2_asm.specs.Entries.{entries}
use Rattle.a2_film.specs.Rows.{name_line}
use Rattle.a2_film.proofs.head.put_names.Given as goal

-- the lines so far were written
abbrev pub invariant-loop-index : goal.invariant-loop-index
invariant-loop-index g l =
    IsLeft (g.W.Output.taker l.fn.writer) (g.W.Output.taker l.writer)
    (flat_map name_line (entries l.names)) (flat_map name_line (drop l.index (entries l.names)))

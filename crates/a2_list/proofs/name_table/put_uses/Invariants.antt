use Rattle.std.proofs.Common.{◌+◌, ◌++◌, codes, drop}
use Rattle.a2_page.proofs.Sending.{IsLeft}
use Rattle.a2_list.specs.Uses.{uses}
use Rattle.a2_list.specs.NameTable.{numbers}
use Rattle.a2_list.proofs.UseLaws.{rest_of}
use Rattle.a2_list.proofs.name_table.put_uses.Given as goal

-- the numbers of the lines so far were written
abbrev pub invariant-loop-index : goal.invariant-loop-index
invariant-loop-index g l =
    IsLeft (g.W.Output.taker l.fn.writer) (g.W.Output.taker l.writer) (numbers (uses l.name 1 l.lines) ++ codes "\n")
    (rest_of l.used (uses l.name (l.index + 1) (drop l.index l.lines)))

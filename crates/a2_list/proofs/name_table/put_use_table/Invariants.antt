use Rattle.std.proofs.Common.{◌++◌, ℕ, List, map, drop, Bor}
use Rattle.std.specs.List.{flat_map}
use Rattle.a2_page.proofs.Sending.{IsLeft}
use Rattle.a2_list.specs.NameTable.{use_head, use_row}
use Rattle.a2_list.proofs.name_table.put_use_table.Given as goal

-- the head and the rows of the names so far were written
abbrev pub invariant-loop-name : goal.invariant-loop-name
invariant-loop-name g l =
    IsLeft (g.W.Output.taker l.fn.writer) (g.W.Output.taker l.writer)
    (use_head l.width ++ flat_map (use_row l.width l.program.names l.lines) (map (λ (x : Bor (List ℕ)). x.now) l.order))
    (flat_map (use_row l.width l.program.names l.lines) (drop l.name-index (map (λ (x : Bor (List ℕ)). x.now) l.order)))

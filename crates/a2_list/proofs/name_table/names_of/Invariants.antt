use Rattle.std.proofs.Common.{◌≡◌, ℕ, List, map, take, Bor}
use Rattle.a2_asm.specs.Entries.{entries}
use Rattle.a2_list.proofs.name_table.names_of.Given as goal

-- the names so far were found
abbrev pub invariant-loop-index : goal.invariant-loop-index
invariant-loop-index g l =
    map (λ (x : Bor (List ℕ)). x.now) l.found.items ≡ map (λ (entry : List ℕ × ℕ). entry.0) (take l.index (entries l.names))

use Rattle.std.proofs.Common.{◌≡◌, ◌++◌, map, take}
use Rattle.std.specs.List.{flat_map}
use Rattle.a2_disassembly.specs.Dump.{dump_row}
use Rattle.a2_disassembly.proofs.dump.put_rows.Given as goal

-- the rows so far were appended
abbrev pub invariant-loop-line : goal.invariant-loop-line
invariant-loop-line g l = l.rows.items ≡ l.fn.rows.items ++ flat_map dump_row (take l.line-index (map (λ x. x.now) l.lines))

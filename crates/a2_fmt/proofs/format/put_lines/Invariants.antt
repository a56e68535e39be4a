use Rattle.std.proofs.Common.{◌≡◌, ◌++◌, map, take}
use Rattle.std.specs.List.{flat_map}
use Rattle.a2_fmt.specs.Layout.{row}
use Rattle.a2_fmt.proofs.format.put_lines.Given as goal

-- the lines so far were appended
abbrev pub invariant-loop-line : goal.invariant-loop-line
invariant-loop-line g l = l.text.items ≡ l.fn.text.items ++ flat_map row (take l.line-index (map (λ x. x.now) l.lines))

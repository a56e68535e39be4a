use Rattle.std.proofs.Common.{◌≡◌, ◌++◌, map, take}
use Rattle.std.specs.List.{flat_map}
use Rattle.a2_monitor_listing.specs.Listing.{object_row}
use Rattle.a2_monitor_listing.proofs.object.put_lines.Given as goal

-- the lines so far were appended
abbrev pub invariant-loop-line : goal.invariant-loop-line
invariant-loop-line g l = l.object.items ≡ l.fn.object.items ++ flat_map object_row (take l.line-index (map (λ x. x.now) l.lines))

use Rattle.std.proofs.Common.{◌≡◌, map, take}
use Rattle.a2_page.specs.Marks.{character}
use Rattle.a2_page.proofs.picture.put_line.Given as goal

abbrev pub invariant-loop-byte : goal.invariant-loop-byte
invariant-loop-byte g l = l.line.items ≡ map (character l.mark) (take l.byte-index l.cells)

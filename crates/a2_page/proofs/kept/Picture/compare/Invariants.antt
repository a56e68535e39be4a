use Rattle.a2_page.specs.Picture.{page_grid}
use Rattle.a2_page.proofs.KeptRows.{ComparedTo}
use Rattle.a2_page.proofs.kept.Picture.compare.Given as goal

abbrev pub invariant-loop-row : goal.invariant-loop-row
invariant-loop-row l =
    ComparedTo l.row (page_grid l.page) (record { rows = page_grid l.initial.self-inside.page; marks = l.initial.self-inside.marks })
    (record { rows = page_grid l.self-inside.page; marks = l.self-inside.marks })

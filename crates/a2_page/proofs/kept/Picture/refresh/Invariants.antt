use Rattle.std.specs.Prelude.{◌≡◌}
use Rattle.a2_page.specs.Picture.{page_grid}
use Rattle.a2_page.proofs.KeptRows.{Reached}
use Rattle.a2_page.proofs.kept.Picture.refresh.Given as goal

abbrev pub invariant-loop-row : goal.invariant-loop-row
invariant-loop-row l = record {
  marks : l.self-inside.marks ≡ l.initial.self-inside.marks;
  rows : Reached l.row l.initial.self-inside.marks (page_grid l.self-inside.page) (page_grid l.page);
}

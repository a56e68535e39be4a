use Rattle.std.specs.Prelude.{◌≡◌, ℕ, ◌<◌, false, [], slice_index_or}
use Rattle.a2_page.specs.Picture.{page_grid}
use Rattle.a2_page.proofs.kept.Picture.fits.Given as goal

abbrev pub invariant-loop-row : goal.invariant-loop-row
invariant-loop-row l =
    (r : ℕ) → r < l.row → slice_index_or l.self-inside.marks r false ≡ false
    → slice_index_or (page_grid l.self-inside.page) r [] ≡ slice_index_or (page_grid l.page) r []

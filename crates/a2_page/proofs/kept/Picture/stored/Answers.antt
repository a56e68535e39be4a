use Rattle.std.proofs.Common.{sym, ◌∙◌, subst, ◌<◌}
use Rattle.a2_page.proofs.KeptRows.{found_row}
use Rattle.a2_page.proofs.kept.Picture.stored.Goals as goal

pub bounds-self-inside-from : goal.bounds-self-inside-from
bounds-self-inside-from c =
    subst (λ n. n < 24) (sym c.from.ensures)
    (found_row c.args.address c.in-Some.field-0-0 c.in-Some.row c.in-Some.field-0-2 (sym c.cell.ensures ∙ c.in-Some.is))

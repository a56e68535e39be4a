use Rattle.std.proofs.Common.{codes}
use Rattle.std.proofs.lemmas.List.Folds.{flat_map-map}
use Rattle.a2_stream.proofs.Joined.{broke_off, went_on}
use Rattle.a2_profile.specs.Row.{row, cell_text, text_after}
use Rattle.a2_profile.proofs.row.put_row.Goals as goal

pub returns-in_err-put_cells : goal.returns-in_err-put_cells
unfolding row
returns-in_err-put_cells g c =
    rw (flat_map-map cell_text (λ x. (x.width, x.text.now)) c.args.cells.now)
    (broke_off _ _ c.from_residual.result _ _ c.from_residual.ensures.0 c.in_err-put_cells.ensures)

pub returns-in_err-put_texts : goal.returns-in_err-put_texts
unfolding row
returns-in_err-put_texts g c =
    rw (flat_map-map cell_text (λ x. (x.width, x.text.now)) c.args.cells.now, flat_map-map text_after (λ x. x.now) c.args.texts.now)
    (went_on _ _ _ c.from_residual-in_err-put_texts.result _ _ c.in_ok-put_cells.ensures
    (broke_off _ _ c.from_residual-in_err-put_texts.result _ _ c.from_residual-in_err-put_texts.ensures.0 c.in_err-put_texts.ensures))

pub returns : goal.returns
unfolding row
returns g c =
    rw (flat_map-map cell_text (λ x. (x.width, x.text.now)) c.args.cells.now, flat_map-map text_after (λ x. x.now) c.args.texts.now)
    (went_on _ _ _ c.put.result _ _ c.in_ok-put_cells.ensures (went_on _ _ _ c.put.result _ _ c.in_ok-put_texts.ensures c.put.ensures))

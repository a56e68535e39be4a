use Rattle.std.proofs.Common.{◌≡◌, string_bytes, ◌∙◌}
use Rattle.a2_page.proofs.Sending.{left_more, left_broke_off}
use Rattle.a2_asm.specs.Entries.{entries}
use Rattle.a2_film.specs.Rows.{name_line}
use Rattle.a2_film.proofs.Parts.{entry-at, entries-next}
use Rattle.a2_film.proofs.head.put_names.Goals as goal

pub returns-in_err-put_name : goal.returns-in_err-put_name
returns-in_err-put_name g c =
    let text : c.as_bytes.result.now ≡ string_bytes c.in-Some.name.now = c.as_bytes.ensures.value ∙ c.as_str.ensures.value in
    left_broke_off _ _ _ c.from_residual.result _ _ _ _ c.from_residual.ensures.0
    (entries-next (λ e. name_line e) (entries c.args.names.now) c.loop-index.index
    (string_bytes c.in-Some.name.now, c.in-Some.value.now)
    (entry-at _ _ c.get_index.result _ c.args.names.now.entries c.loop-index.index c.get_index.ensures.entry c.in-Some.is))
    c.loop-index.invariant (rw text at c.in_err-put_name.ensures)

pub loop-index-preserved : goal.loop-index-preserved
loop-index-preserved g c =
    let text : c.as_bytes.result.now ≡ string_bytes c.in-Some.name.now = c.as_bytes.ensures.value ∙ c.as_str.ensures.value in
    left_more _ _ _ _ _ _ _
    (entries-next (λ e. name_line e) (entries c.args.names.now) c.loop-index.index
    (string_bytes c.in-Some.name.now, c.in-Some.value.now)
    (entry-at _ _ c.get_index.result _ c.args.names.now.entries c.loop-index.index c.get_index.ensures.entry c.in-Some.is))
    c.loop-index.invariant (rw text at c.in_ok-put_name.ensures)

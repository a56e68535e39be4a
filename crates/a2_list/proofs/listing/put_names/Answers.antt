use Rattle.std.proofs.Common.{◌≡◌, string_bytes, ◌∙◌}
use Rattle.a2_page.proofs.Sending.{left_more, left_broke_off}
use Rattle.a2_asm.specs.Entries.{entries}
use Rattle.a2_list.specs.Listing.{name_row}
use Rattle.a2_list.proofs.Rows.{entry-at, names-next}
use Rattle.a2_list.proofs.listing.put_names.Goals as goal

pub returns-in_err-put_all : goal.returns-in_err-put_all
unfolding name_row
returns-in_err-put_all g c =
    let text : c.as_bytes-name.result.now ≡ string_bytes c.in-Some.name.now = c.as_bytes-name.ensures.value ∙ c.as_str.ensures.value in
    left_broke_off _ _ _ c.from_residual.result _ _ _ _ c.from_residual.ensures.0
    (names-next (entries c.args.names.now) c.loop-index.index (string_bytes c.in-Some.name.now, c.in-Some.value.now)
    (entry-at _ _ c.get_index.result _ c.args.names.now.entries c.loop-index.index c.get_index.ensures.entry c.in-Some.is))
    c.loop-index.invariant (rw (c.hex_word.ensures, text) at c.in_err-put_all.ensures)

pub loop-index-preserved : goal.loop-index-preserved
unfolding name_row
loop-index-preserved g c =
    let text : c.as_bytes-name.result.now ≡ string_bytes c.in-Some.name.now = c.as_bytes-name.ensures.value ∙ c.as_str.ensures.value in
    left_more _ _ _ _ _ _ _
    (names-next (entries c.args.names.now) c.loop-index.index (string_bytes c.in-Some.name.now, c.in-Some.value.now)
    (entry-at _ _ c.get_index.result _ c.args.names.now.entries c.loop-index.index c.get_index.ensures.entry c.in-Some.is))
    c.loop-index.invariant (rw (c.hex_word.ensures, text) at c.in_ok-put_all.ensures)

use Rattle.std.proofs.Common.{◌≡◌, ◌+◌, ◌-◌, min, sym, ap, ◌∙◌, arith}
use Rattle.a2_page.proofs.Sending.{left_all, left_more, left_none, left_broke_off}
use Rattle.a2_hex.specs.Images.{held}
use Rattle.a2_list.specs.Listing.{columns, bytes_row, more_rows}
use Rattle.a2_list.proofs.Rows.{more-none, more-over, more-next}
use Rattle.a2_list.proofs.listing.put_more.Goals as goal

pub loop-init : goal.loop-init
loop-init g c =
    let all : c.args.rows - 0 ≡ c.args.rows = omega arith in
    rw all (left_all (g.W.Output.taker c.args.writer.now) (more_rows (held c.args.image.now) c.args.address c.args.count c.args.rows))

pub returns : goal.returns
returns g c =
    left_none _ _ _ _ (more-over (held c.args.image.now) c.loop.at c.loop.left (c.args.rows - c.loop.counter) (omega (arith, c.loop-test.false))) c.loop.invariant

pub returns-in_default : goal.returns-in_default
returns-in_default g c =
    left_none _ _ _ _ (more-none (held c.args.image.now) c.loop.at c.loop.left (c.args.rows - c.loop.counter) (sym c.get.ensures.held ∙ c.in_default.is)) c.loop.invariant

pub returns-in_err-put_all : goal.returns-in_err-put_all
unfolding bytes_row
returns-in_err-put_all g c =
    let few : c.min.result ≡ min (c.loop.left - 3) 3 = omega (arith, c.min.ensures, c.saturating_sub-left.ensures) in
    let text : c.as_slice.result.now ≡ columns (held c.args.image.now) (c.loop.at + 3) (min (c.loop.left - 3) 3)
    = c.as_slice.ensures.value ∙ c.columns.ensures ∙ ap (columns (held c.args.image.now) (c.loop.at + 3)) few in
    left_broke_off _ _ _ c.from_residual.result _ _ _ _ c.from_residual.ensures.0
    (more-next (held c.args.image.now) c.loop.at c.loop.left (c.args.rows - c.loop.counter) c.in-Some.field-0 (sym c.get.ensures.held ∙ c.in-Some.is) (omega (arith, c.loop-test.true)))
    c.loop.invariant (rw text at c.in_err-put_all.ensures)

pub loop-preserved : goal.loop-preserved
unfolding bytes_row
loop-preserved g c =
    let few : c.min.result ≡ min (c.loop.left - 3) 3 = omega (arith, c.min.ensures, c.saturating_sub-left.ensures) in
    let text : c.as_slice.result.now ≡ columns (held c.args.image.now) (c.loop.at + 3) (min (c.loop.left - 3) 3)
    = c.as_slice.ensures.value ∙ c.columns.ensures ∙ ap (columns (held c.args.image.now) (c.loop.at + 3)) few in
    let fewer : c.saturating_sub-left.result ≡ c.loop.left - 3 = omega (arith, c.saturating_sub-left.ensures) in
    let one : c.args.rows - (c.loop.counter + 1) ≡ c.args.rows - c.loop.counter - 1 = omega arith in
    rw (fewer, one)
    (left_more _ _ _ _ _ _ _
    (more-next (held c.args.image.now) c.loop.at c.loop.left (c.args.rows - c.loop.counter) c.in-Some.field-0 (sym c.get.ensures.held ∙ c.in-Some.is) (omega (arith, c.loop-test.true)))
    c.loop.invariant (rw text at c.in_ok-put_all.ensures))

use Rattle.std.specs.Prelude.{◌≡◌, ◌+◌, ◌-◌, ◌/◌, map}
use Rattle.std.proofs.Common.{ap, subst, ◌∙◌, arith}
use Rattle.a2_page.specs.declared.Page.TheVariants.{One}
use Rattle.a2_page.specs.Cells.{numbers_from, row_start}
use Rattle.a2_footprint.specs.Services.{block_cell}
use Rattle.a2_promise_certify.specs.Walking.{AreMarked}
use Rattle.a2_promise_certify.proofs.Marking.{numbers_behind}
use Rattle.a2_promise_certify.proofs.service_stores.mark_blocks_across.Goals as goal

pub returns : goal.returns
returns c = λ is.
    let count = c.saturating_sub.result + 1 in
    let all : count ≡ c.args.last - c.args.first + 1 = omega (arith, c.saturating_sub.ensures) in
    subst (AreMarked c.args.stored.now c.mark_cells.new.stored c.args.changes.now)
    (ap (λ first. numbers_from first count) c.address-cell.ensures ∙ numbers_behind (row_start One (c.args.row / 2)) c.args.first count
    ∙ ap (λ n. map (λ column. block_cell c.args.row column) (numbers_from c.args.first n)) all)
    (c.mark_cells.ensures is)

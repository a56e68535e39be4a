use Rattle.std.proofs.Common.{◌<◌, List, length, slice_index_or, subst, sym}
use Rattle.a2_machine.specs.State.{Device}
use Rattle.a2_history.specs.Held.{Thins}
use Rattle.a2_history.proofs.Holding.{IsOther, thins-same, thins-removed}
use Rattle.a2_history.proofs.checkpoints.remove_unkept.Goals as goal

pub returns-in_err-index : goal.returns-in_err-index
returns-in_err-index g c = thins-same c.args.width c.args.now c.args.held.now.items

pub returns : goal.returns
returns g c =
    let ds : List Device = c.args.held.now.items in
    subst (λ (new : List Device). Thins c.args.width c.args.now ds new) (sym {A = List Device} c.remove.ensures.items)
    (thins-removed c.args.width c.args.now c.in_ok-index.index ds
    (subst (λ (xs : List Device). c.in_ok-index.index < length xs) c.as_slice.ensures.value c.in_ok-index.ensures.within)
    (subst (λ (xs : List Device). (d : Device) → IsOther c.args.width c.args.now (slice_index_or xs c.in_ok-index.index d))
    c.as_slice.ensures.value c.in_ok-index.ensures.other))

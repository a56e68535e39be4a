use Rattle.std.proofs.Common.{◌∙◌, arith}
use Rattle.a2_hex.proofs.ImageLaws.{empty-cells}
use Rattle.a2_hex.proofs.image.Image.new.Goals as goal

pub returns-clause-empty : goal.returns-clause-empty
returns-clause-empty g c = rw c.into_boxed_slice.ensures.items ((empty-cells _ _ _ c.in_ok-cells.ensures.items_if_clones_equal (λ byte bad. bad) c.from.ensures).1)

pub invariant_of-result : goal.invariant_of-result
invariant_of-result g c =
    let (size, none) = empty-cells _ _ _ c.in_ok-cells.ensures.items_if_clones_equal (λ byte bad. bad) c.from.ensures in
    rw c.into_boxed_slice.ensures.items (size, (λ a. rw (none a) tt), (λ a _. none a), omega arith, c.into_boxed_slice.ensures.len ∙ c.in_ok-cells.ensures.len ∙ c.from.ensures)

use Rattle.std.specs.Prelude.{◌==◌, ◌||◌, ◌∷◌, ◌++◌, [], slice_set, true}
use Rattle.std.proofs.Common.{ap, sym, subst, ◌∙◌, arith}
use Rattle.a2_promise_certify.specs.Walking.{is_set}
use Rattle.a2_promise_certify.proofs.But.{Covers, covered}
use Rattle.a2_promise_certify.proofs.Marking.{marked}
use Rattle.a2_promise_certify.proofs.stored.Stored.mark.Goals as goal

pub invariant_of-self : goal.invariant_of-self
invariant_of-self c =
    let marks = c.self.inside.marks.items in
    let places = c.self.inside.places.items in
    subst (λ ns. Covers ns (slice_set marks c.from-place.result true)) (sym c.in-Ok.ensures.items)
    (subst (λ place. Covers (places ++ c.args.address ∷ []) (slice_set marks place true)) (sym c.from-place.ensures)
    (covered places marks c.args.address (omega (arith, c.from-place.ensures, c.if-place-len.false, c.len.ensures)) c.self.invariant))

pub returns-in-Ok : goal.returns-in-Ok
returns-in-Ok c = λ _ a.
    let marks = c.self.inside.marks.items in
    marked marks c.from-place.result a (omega (arith, c.if-place-len.false, c.len.ensures))
    ∙ ap (λ place. (place == a) || is_set marks a) c.from-place.ensures
    ∙ ap (λ all. (c.args.address == a) || is_set all a) c.self.view_is

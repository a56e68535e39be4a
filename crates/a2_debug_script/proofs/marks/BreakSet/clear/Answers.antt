use Rattle.std.proofs.Common.{rules, arith}
use Rattle.std.specs.Prelude.{not, ◌==◌}
use Rattle.std.proofs.lemmas.Fn.{filter_same}
use Rattle.a2_debug_script.proofs.Marking.{mark_cleared}
use Rattle.a2_debug_script.proofs.marks.BreakSet.clear.Goals as goal

pub invariant_of-self : goal.invariant_of-self
invariant_of-self g c =
    let kept = filter_same _ (λ mark. not (mark == c.args.address)) _ (λ x b f' k. search rules) _ _ c.retain.ensures.filtered in
    rw kept
    (mark_cleared c.self.inside.places.items _ c.args.address (omega arith) c.self.invariant.0, omega (arith, c.retain.ensures.capacity, c.self.invariant.1))

pub returns : goal.returns
returns g c = rw (← c.self.view_is) (filter_same _ (λ mark. not (mark == c.args.address)) _ (λ x b f' k. search rules) _ _ c.retain.ensures.filtered)

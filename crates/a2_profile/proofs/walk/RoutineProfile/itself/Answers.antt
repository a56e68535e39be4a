use Rattle.std.proofs.Common.{◌<◌, ◌≤◌, subst, sym, arith, length, refl, List}
use Rattle.std.proofs.lemmas.List.{get_or_read_under}
use Rattle.std.proofs.lemmas.List.Sums.{get_or-le-sum_by}
use Rattle.a2_profile.specs.declared.walk.Totals.{Totals}
use Rattle.a2_profile.specs.Totals.{itself, nothing, own_cycles_in}
use Rattle.a2_profile.proofs.walk.RoutineProfile.itself.Goals as goal

pub returns-clause-own_within : goal.returns-clause-own_within
returns-clause-own_within g c =
    let totals = c.self.inside.totals.items in
    let low : itself < length totals = omega (arith, c.self.invariant.size) in
    let read = get_or_read_under totals itself (length totals) c.index.result.now nothing c.index.ensures low refl in
    subst (λ (l : List Totals). c.index.result.now.cycles ≤ own_cycles_in l) c.self.view_is
    (subst (λ (t : Totals). t.cycles ≤ own_cycles_in totals) (sym read) (get_or-le-sum_by (λ (t : Totals). t.cycles) totals itself nothing low))

use Rattle.std.proofs.Common.{◌≡◌, ◌<◌, sym, ap, ◌∙◌, subst, arith, length, vec_len, refl}
use Rattle.std.proofs.lemmas.List.{get_or_read_under}
use Rattle.a2_profile.specs.declared.walk.Opening.{Opening}
use Rattle.a2_profile.specs.Totals.{nothing}
use Rattle.a2_profile.specs.Walks.{Walk, IsWalk, SeesAlike, closed, inner, opening_at, left}
use Rattle.a2_profile.proofs.WalkLaws.{left-same, left-walk, left-alike, last-open, inner-few, popped-inner}
use Rattle.a2_profile.proofs.walk.Walk.close.Goals as goal

pub overflow_sub-opening : goal.overflow_sub-opening
overflow_sub-opening g c =
    let inside = c.self.inside in
    let walk : Walk = record {
      frames = inside.frames.items;
      totals = inside.totals.items;
      openings = inside.openings.items;
      steps = inside.steps;
      cycles = inside.cycles;
    } in
    let some : 0 < length inside.frames.items = subst (λ (w : Walk). 0 < length w.frames) (sym c.self.view_is) c.requires in
    let at : c.in-Some.frame.routine ≡ inner inside.frames.items = popped-inner inside.frames.items c.in-Some.frame (sym c.pop.ensures.value ∙ c.in-Some.is) in
    let low : c.in-Some.frame.routine < length inside.openings.items = omega (arith, at, inner-few walk c.self.invariant some, c.self.invariant.openings_size) in
    let read : c.index-opening.result.now ≡ opening_at inside.openings.items c.in-Some.frame.routine
    = get_or_read_under inside.openings.items c.in-Some.frame.routine (length inside.openings.items) c.index-opening.result.now closed c.index-opening.ensures low refl in
    let depth : c.index-opening.result.now.depth ≡ (opening_at inside.openings.items (inner inside.frames.items)).depth
    = ap (λ (o : Opening). o.depth) (read ∙ ap (opening_at inside.openings.items) at) in
    omega (arith, depth, last-open walk c.self.invariant some)

pub index_mut-requires-2 : goal.index_mut-requires-2
index_mut-requires-2 g c =
    let inside = c.self.inside in
    let walk : Walk = record {
      frames = inside.frames.items;
      totals = inside.totals.items;
      openings = inside.openings.items;
      steps = inside.steps;
      cycles = inside.cycles;
    } in
    let some : 0 < length inside.frames.items = subst (λ (w : Walk). 0 < length w.frames) (sym c.self.view_is) c.requires in
    let at : c.in-Some.frame.routine ≡ inner inside.frames.items = popped-inner inside.frames.items c.in-Some.frame (sym c.pop.ensures.value ∙ c.in-Some.is) in
    let len : vec_len inside.openings ≡ length inside.openings.items = omega arith in
    omega (arith, at, len, inner-few walk c.self.invariant some, c.self.invariant.openings_size)

pub invariant_of-self-2 : goal.invariant_of-self-2
invariant_of-self-2 g c =
    let inside = c.self.inside in
    let walk : Walk = record {
      frames = inside.frames.items;
      totals = inside.totals.items;
      openings = inside.openings.items;
      steps = inside.steps;
      cycles = inside.cycles;
    } in
    let some : 0 < length inside.frames.items = subst (λ (w : Walk). 0 < length w.frames) (sym c.self.view_is) c.requires in
    let i = c.in-Some.frame.routine in
    let at : c.in-Some.frame.routine ≡ inner inside.frames.items = popped-inner inside.frames.items c.in-Some.frame (sym c.pop.ensures.value ∙ c.in-Some.is) in
    let low : i < length inside.openings.items = omega (arith, at, inner-few walk c.self.invariant some, c.self.invariant.openings_size) in
    let low_totals : i < length inside.totals.items = omega (arith, at, inner-few walk c.self.invariant some, c.self.invariant.totals_size) in
    let same = left-same walk c.pop.new.self.items i c.index-opening.result.now c.index-totals.result.now c.spent.result c.spent-2.result
    c.pop.ensures.rest at
    (get_or_read_under inside.openings.items i (length inside.openings.items) c.index-opening.result.now closed c.index-opening.ensures low refl)
    (get_or_read_under inside.totals.items i (length inside.totals.items) c.index-totals.result.now nothing c.index-totals.ensures low_totals refl)
    c.spent.ensures c.spent-2.ensures in
    subst IsWalk (sym same) (left-walk walk c.self.invariant some)

pub returns-clause-alike : goal.returns-clause-alike
returns-clause-alike g c =
    let inside = c.self.inside in
    let walk : Walk = record {
      frames = inside.frames.items;
      totals = inside.totals.items;
      openings = inside.openings.items;
      steps = inside.steps;
      cycles = inside.cycles;
    } in
    let some : 0 < length inside.frames.items = subst (λ (w : Walk). 0 < length w.frames) (sym c.self.view_is) c.requires in
    let i = c.in-Some.frame.routine in
    let at : c.in-Some.frame.routine ≡ inner inside.frames.items = popped-inner inside.frames.items c.in-Some.frame (sym c.pop.ensures.value ∙ c.in-Some.is) in
    let low : i < length inside.openings.items = omega (arith, at, inner-few walk c.self.invariant some, c.self.invariant.openings_size) in
    let low_totals : i < length inside.totals.items = omega (arith, at, inner-few walk c.self.invariant some, c.self.invariant.totals_size) in
    let same = left-same walk c.pop.new.self.items i c.index-opening.result.now c.index-totals.result.now c.spent.result c.spent-2.result
    c.pop.ensures.rest at
    (get_or_read_under inside.openings.items i (length inside.openings.items) c.index-opening.result.now closed c.index-opening.ensures low refl)
    (get_or_read_under inside.totals.items i (length inside.totals.items) c.index-totals.result.now nothing c.index-totals.ensures low_totals refl)
    c.spent.ensures c.spent-2.ensures in
    subst (λ (w : Walk). SeesAlike c.args.self.now w) (sym same)
    (subst (λ (w : Walk). SeesAlike w (left walk)) c.self.view_is (left-alike walk c.self.invariant some))

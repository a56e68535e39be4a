use Rattle.std.proofs.Common.{◌≡◌, ◌<◌, arith, ap, sym, subst, length, lit<, refl, nat_eq}
use Rattle.std.proofs.lemmas.List.{get_or_read_under}
use Rattle.std.proofs.lemmas.List.Sums.{count_by-le-length}
use Rattle.a2_profile.specs.declared.walk.Frame.{Frame}
use Rattle.a2_profile.specs.declared.walk.Opening.{Opening}
use Rattle.a2_profile.specs.Walks.{Walk, IsLow, closed, opening_at}
use Rattle.a2_profile.proofs.WalkLaws.{opened-is, frames-few}
use Rattle.a2_profile.proofs.walk.Walk.open.Goals as goal

pub push-requires : goal.push-requires
push-requires g c =
    let inside = c.self.inside in
    let walk : Walk = record {
      frames = inside.frames.items;
      totals = inside.totals.items;
      openings = inside.openings.items;
      steps = inside.steps;
      cycles = inside.cycles;
    } in
    (lit< tt, frames-few walk c.args.s c.self.invariant (subst (λ (w : Walk). IsLow c.args.s w.frames) (sym c.self.view_is) c.requires.low))

pub overflow_add-opening : goal.overflow_add-opening
overflow_add-opening g c =
    let inside = c.self.inside in
    let walk : Walk = record {
      frames = inside.frames.items;
      totals = inside.totals.items;
      openings = inside.openings.items;
      steps = inside.steps;
      cycles = inside.cycles;
    } in
    let low : c.args.routine < length inside.openings.items = omega (arith, c.self.invariant.openings_size, c.requires.routine) in
    let read : c.index-opening.result.now ≡ opening_at inside.openings.items c.args.routine
    = get_or_read_under inside.openings.items c.args.routine (length inside.openings.items) c.index-opening.result.now closed c.index-opening.ensures low refl in
    let read-depth : c.index-opening.result.now.depth ≡ (opening_at inside.openings.items c.args.routine).depth = ap (λ (o : Opening). o.depth) read in
    omega (
      arith,
      read-depth,
      c.self.invariant.depths c.args.routine c.requires.routine,
      count_by-le-length (λ (f : Frame). nat_eq f.routine c.args.routine) inside.frames.items,
      frames-few walk c.args.s c.self.invariant (subst (λ (w : Walk). IsLow c.args.s w.frames) (sym c.self.view_is) c.requires.low),
    )

pub invariant_of-self : goal.invariant_of-self
invariant_of-self g c =
    let inside = c.self.inside in
    let walk : Walk = record {
      frames = inside.frames.items;
      totals = inside.totals.items;
      openings = inside.openings.items;
      steps = inside.steps;
      cycles = inside.cycles;
    } in
    let low : c.args.routine < length inside.openings.items = omega (arith, c.self.invariant.openings_size, c.requires.routine) in
    opened-is walk c.args.routine c.args.s c.self.invariant c.requires.routine c.requires.high
    (subst (λ (w : Walk). IsLow c.args.s w.frames) (sym c.self.view_is) c.requires.low) c.push.new.self.items c.index-opening.result.now c.begun.result c.begun-2.result
    c.push.ensures.items (get_or_read_under inside.openings.items c.args.routine (length inside.openings.items) c.index-opening.result.now closed c.index-opening.ensures low refl)
    c.begun.ensures c.begun-2.ensures

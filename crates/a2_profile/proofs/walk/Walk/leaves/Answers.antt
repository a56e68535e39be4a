use Rattle.std.proofs.Common.{◌≡◌, ◌-◌, ◌<◌, ap, ◌∙◌, subst, arith, length, List}
use Rattle.std.proofs.lemmas.Bool.{leb-false}
use Rattle.a2_profile.specs.declared.walk.Frame.{Frame}
use Rattle.a2_profile.specs.Walks.{Walk, IsLow, frame_at}
use Rattle.a2_profile.specs.Walks as walks
use Rattle.a2_profile.proofs.WalkLaws.{low-above}
use Rattle.a2_profile.proofs.walk.Walk.leaves.Goals as goal

pub returns-in-Some-clause-low : goal.returns-in-Some-clause-low
returns-in-Some-clause-low g c = λ e.
    let inside = c.self.inside in
    let walk : Walk = record {
      frames = inside.frames.items;
      totals = inside.totals.items;
      openings = inside.openings.items;
      steps = inside.steps;
      cycles = inside.cycles;
    } in
    let frames = inside.frames.items in
    let last : c.in-Some.frame.now ≡ frame_at frames (length frames - 1)
    = c.in-Some.ensures.item.3.1 walks.base ∙ ap (λ (l : List Frame). frame_at l (length l - 1)) c.as_slice.ensures.value in
    let high : c.args.s < (frame_at frames (length frames - 1)).s
    = omega (arith, leb-false c.in-Some.frame.now.s c.from.result e, ap (λ (f : Frame). f.s) last, c.from.ensures) in
    subst (λ (w : Walk). IsLow c.args.s w.frames) c.self.view_is (low-above walk c.args.s c.self.invariant (λ _. high))

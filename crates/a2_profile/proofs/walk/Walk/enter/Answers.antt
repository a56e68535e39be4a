use Rattle.std.proofs.Common.{sym, subst, ℕ}
use Rattle.a2_profile.specs.Walks.{Walk, IsLow}
use Rattle.a2_profile.proofs.walk.Walk.enter.Goals as goal

pub open-requires-clause-low : goal.open-requires-clause-low
open-requires-clause-low g c =
    subst (λ (s : ℕ). IsLow s c.note.new.self.frames) (sym c.from-2.ensures)
    (subst (λ (w : Walk). IsLow c.args.s w.frames) (sym c.note.ensures) (c.leaves.ensures.low c.if-leaves.false))

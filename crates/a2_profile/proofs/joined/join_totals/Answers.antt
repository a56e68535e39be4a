use Rattle.std.proofs.Common.{sym, subst, arith, refl}
use Rattle.std.specs.Prelude.{slice_set, ◌+◌}
use Rattle.a2_profile.specs.declared.walk.Totals.{Totals}
use Rattle.a2_profile.specs.Totals.{nothing}
use Rattle.a2_profile.specs.Room.{joined_totals}
use Rattle.a2_profile.proofs.Joining.{IsJoining, joining-none, joining-more, joining-done}
use Rattle.a2_profile.proofs.JoinLaws.{joining-fits}
use Rattle.a2_profile.proofs.joined.join_totals.Goals as goal

pub loop-index-init : goal.loop-index-init
loop-index-init c = joining-none joined_totals nothing c.args.totals.now c.args.others.now

pub joined-requires : goal.joined-requires
joined-requires c =
    let fits = joining-fits c.args.totals.now c.args.others.now c.loop-index.totals c.loop-index.index c.requires.size c.requires.others
    (omega (arith, c.loop-index-test.true, c.requires.others)) c.loop-index.invariant c.requires.fit c.requires.steps c.requires.cycles c.requires.within c.requires.others_within in
    record { times = fits.times; steps = fits.steps; cycles = fits.cycles; all_steps = fits.all_steps; all_cycles = fits.all_cycles }

pub loop-index-preserved : goal.loop-index-preserved
loop-index-preserved c =
    subst (λ (t : Totals). IsJoining joined_totals nothing c.args.totals.now c.args.others.now (c.loop-index.index + 1) (slice_set c.loop-index.totals c.loop-index.index t))
    (sym c.joined.ensures)
    (joining-more joined_totals nothing c.args.totals.now c.args.others.now c.loop-index.totals c.loop-index.index
    (omega (arith, c.loop-index-test.true, c.requires.size, c.requires.others)) c.loop-index-test.true c.loop-index.invariant)

pub returns : goal.returns
returns c =
    let done = joining-done joined_totals nothing c.args.totals.now c.args.others.now c.loop-index.totals c.loop-index.index refl
    (omega (arith, c.requires.size, c.requires.others)) (omega (arith, c.loop-index-test.false)) c.loop-index.invariant in
    record { joined = done.joined_are; steps = done.sums (λ (t : Totals). t.steps) (λ x y. refl); cycles = done.sums (λ (t : Totals). t.cycles) (λ x y. refl) }

use Rattle.std.proofs.Common.{sym, subst, arith, length, refl}
use Rattle.std.specs.Prelude.{slice_set, ◌<◌, ◌+◌}
use Rattle.a2_profile.specs.declared.profile.Count.{Count}
use Rattle.a2_profile.specs.Counts.{none, joined}
use Rattle.a2_profile.proofs.Joining.{IsJoining, joining-none, joining-more, joining-done}
use Rattle.a2_profile.proofs.CountLaws.{joining-fits}
use Rattle.a2_profile.proofs.profile.join_counts.Goals as goal

pub loop-index-init : goal.loop-index-init
loop-index-init c = joining-none joined none c.args.counts.now c.args.others.now

pub joined-requires : goal.joined-requires
joined-requires c =
    let within : c.loop-index.index < length c.args.others.now = omega (arith, c.loop-index-test.true) in
    let fits = joining-fits c.args.counts.now c.args.others.now c.loop-index.counts c.loop-index.index (omega (arith, c.loop-index-test.true, c.requires.size, c.requires.others)) within
    c.loop-index.invariant c.requires.steps c.requires.cycles c.requires.taken c.requires.others_taken in
    record { times = fits.times; cycles = fits.cycles; taken = fits.taken }

pub loop-index-preserved : goal.loop-index-preserved
loop-index-preserved c =
    subst (λ (count : Count). IsJoining joined none c.args.counts.now c.args.others.now (c.loop-index.index + 1) (slice_set c.loop-index.counts c.loop-index.index count))
    (sym c.joined.ensures)
    (joining-more joined none c.args.counts.now c.args.others.now c.loop-index.counts c.loop-index.index
    (omega (arith, c.loop-index-test.true, c.requires.size, c.requires.others)) c.loop-index-test.true c.loop-index.invariant)

pub returns : goal.returns
returns c =
    let done = joining-done joined none c.args.counts.now c.args.others.now c.loop-index.counts c.loop-index.index refl
    (omega (arith, c.requires.size, c.requires.others)) (omega (arith, c.loop-index-test.false)) c.loop-index.invariant in
    record {
      joined = done.joined_are;
      steps = done.sums (λ (count : Count). count.times) (λ x y. refl);
      cycles = done.sums (λ (count : Count). count.cycles) (λ x y. refl);
    }

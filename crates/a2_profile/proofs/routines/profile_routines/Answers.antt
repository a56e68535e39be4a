use Rattle.std.proofs.Common.{sym, ◌∙◌, arith}
use Rattle.a2_profile.proofs.Going.{no-cycles}
use Rattle.a2_profile.proofs.Walking.{walked}
use Rattle.a2_profile.proofs.routines.profile_routines.Goals as goal

pub returns-clause-counted : goal.returns-clause-counted
returns-clause-counted g c =
    let run = c.in_ok-ended.ensures.run in
    rw (c.cause.ensures, ← run.0, ← run.1, ← run.2, ← run.3, ← run.4)
    (walked c.in_ok-ended.ended c.in_ok-walk.walk c.observed.new.observer c.in_ok-ended.ensures.ended (omega (arith, run.3, c.fits.ensures))
    (record {
      is_walk = c.is_walk.ensures;
      frames = c.in_ok-walk.ensures.frames;
      seen = c.in_ok-walk.ensures.nothing;
      steps = c.in_ok-walk.ensures.steps;
      cycles = c.in_ok-walk.ensures.cycles ∙ sym (no-cycles c.in_ok-ended.ended);
    }) c.is_walk-2.ensures c.in_ok-ended.ensures.seen c.finish.result c.finish.ensures.seen c.finish.ensures.steps c.finish.ensures.cycles)

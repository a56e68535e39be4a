use Rattle.std.proofs.Common.{sym, ap, subst, refl}
use Rattle.a2_asm.specs.Assembled.{Assembled}
use Rattle.a2_history.specs.Going.{Track}
use Rattle.a2_run.specs.Started.{IsStarted}
use Rattle.a2_debugger.proofs.inspector.Inspector.new.Goals as goal

pub returns : goal.returns
returns g c =
    let origin = c.in_ok-history.history.course.origin in
    let started = IsStarted c.args.run.free c.into_program-program.result c.args.run.keys.now in record {
      program = c.into_program-program.ensures.is;
      position = ap (λ (track : Track). track.position) c.in_ok-history.ensures;
      started = subst (λ (p : Assembled). IsStarted c.args.run.free p c.args.run.keys.now origin) c.into_program-program.ensures.is
          (subst started (sym (ap (λ (track : Track). track.course.origin) c.in_ok-history.ensures)) c.in_ok-machine.ensures);
      log = ap (λ (track : Track). track.course.log) c.in_ok-history.ensures;
      breaks = c.new-3.ensures;
      watches = c.new-4.ensures;
      last = c.new-5.ensures;
      most = refl;
    }

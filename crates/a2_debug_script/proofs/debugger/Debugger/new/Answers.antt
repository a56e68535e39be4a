use Rattle.std.proofs.Common.{arith}
use Rattle.a2_debug_script.proofs.Places.{places_start}
use Rattle.a2_debug_script.proofs.Sessions.{booted, kept_start, session_start}
use Rattle.a2_debug_script.proofs.debugger.Debugger.new.Goals as goal

pub invariant_of-result : goal.invariant_of-result
invariant_of-result g c =
    let at = booted c.args.program c.boot.new.self c.guard.new.self c.is_sound.ensures (rw (c.image.ensures, c.entry.ensures) at c.boot.ensures.world)
    c.boot.ensures.steps c.guard.ensures in
    rw (c.in-Ok.ensures.items, c.keep.ensures.held, c.in-Ok-new-2.ensures.held)
    (kept_start _ _ at, omega (arith, c.in-Ok.ensures.exact), places_start _ _ at)

pub returns-clause-session : goal.returns-clause-session
returns-clause-session g c = rw (c.in-Ok.ensures.items, c.in-Ok-new.ensures) (session_start c.args.program _)

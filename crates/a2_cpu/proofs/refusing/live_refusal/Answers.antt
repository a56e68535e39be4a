use Rattle.std.proofs.Common.{refl}
use Rattle.a2_cpu.proofs.Finding.{told-found}
use Rattle.a2_cpu.proofs.refusing.live_refusal.Goals as goal

pub returns-in-Ok : goal.returns-in-Ok
returns-in-Ok g c = (told-found (g.G.Protection.is_protected c.args.guard.now) c.in-Ok.ensures.found c.refusal.ensures).why

pub returns-in-Err : goal.returns-in-Err
returns-in-Err g c = (told-found (g.G.Protection.is_protected c.args.guard.now) c.in-Err.ensures.found refl).why

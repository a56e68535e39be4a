use Rattle.std.proofs.Common.{rules, ltb}
use Rattle.arrayvec.proofs.ArrayVecLemmas.{filter-from_retain}
use Rattle.a2_trace.proofs.calls.leave.Goals as goal

pub returns : goal.returns
returns g c = filter-from_retain _ (λ v. ltb c.args.machine.now.state.regs.s v.s) _ (λ x b f' y called. search rules) _ _ c.retain.ensures.filtered

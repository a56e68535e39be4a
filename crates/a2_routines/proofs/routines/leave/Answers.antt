use Rattle.std.proofs.Common.{rules, ltb}
use Rattle.std.proofs.lemmas.Fn.{filter_same}
use Rattle.a2_routines.proofs.routines.leave.Goals as goal

pub returns : goal.returns
returns g c = filter_same _ (λ entry. ltb c.args.machine.now.state.regs.s entry.s) _ (λ x b f' k. search rules) _ _ c.retain.ensures.filtered

use Rattle.std.proofs.Common.{rules}
use Rattle.std.proofs.lemmas.Fn.{All-from_retain}
use Rattle.a2_history.specs.Spacing.{IsKept}
use Rattle.a2_history.proofs.Holding.{thins-retained}
use Rattle.a2_history.proofs.checkpoints.drop_unkept.Goals as goal

pub returns-clause-thinned : goal.returns-clause-thinned
returns-clause-thinned g c =
    thins-retained _ _ c.args.width c.args.now (λ d b f' k. search rules)
    c.args.held.now.items c.retain.new.self.items c.retain.ensures.filtered

pub returns-clause-wanted : goal.returns-clause-wanted
returns-clause-wanted g c =
    All-from_retain _ (λ d. IsKept c.args.width c.args.now d.state.steps) _ (λ x b f' k. search rules) _ _ c.retain.ensures.filtered

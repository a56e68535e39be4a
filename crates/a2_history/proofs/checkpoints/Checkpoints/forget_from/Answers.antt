use Rattle.std.proofs.Common.{◌<◌, ltb, rules, subst, sym}
use Rattle.std.proofs.lemmas.Fn.{filter_same, All-from_retain}
use Rattle.a2_history.specs.Going.{AreOn}
use Rattle.a2_history.proofs.Ways.{on-filtered}
use Rattle.a2_history.proofs.checkpoints.Checkpoints.forget_from.Goals as goal

pub returns-clause-on : goal.returns-clause-on
returns-clause-on g c = λ course on.
    on-filtered course (λ d. ltb d.state.steps c.args.position) c.self.inside.held.items c.retain.new.self.items
    (filter_same _ (λ d. ltb d.state.steps c.args.position) _ (λ x b f' k. search rules) _ _ c.retain.ensures.filtered)
    (subst (λ xs. AreOn course xs) (sym c.self.view_is) on)

pub returns-clause-before : goal.returns-clause-before
returns-clause-before g c =
    All-from_retain _ (λ d. d.state.steps < c.args.position) _ (λ x b f' k. search rules) _ _ c.retain.ensures.filtered

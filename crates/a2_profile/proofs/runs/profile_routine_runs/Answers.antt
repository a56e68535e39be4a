use Rattle.std.proofs.Common.{sym, ap, ◌∙◌, List, []}
use Rattle.std.proofs.lemmas.List.{get_or_default, take_more}
use Rattle.std.proofs.lemmas.Result.{err_from_is_err_and}
use Rattle.a2_profile.specs.declared.walk.Totals.{Totals}
use Rattle.a2_profile.specs.Totals.{nothing, totals_at, own_steps_in, own_cycles_in}
use Rattle.a2_profile.specs.Room.{joined_totals}
use Rattle.a2_profile.proofs.JoinLaws.{no_totals-at, no_totals-summed}
use Rattle.a2_profile.proofs.RunLaws.{no-runs, run-more, fault-of, when_ok}
use Rattle.a2_profile.proofs.runs.profile_routine_runs.Goals as goal

pub loop-keys-init : goal.loop-keys-init
loop-keys-init g c =
    rw (c.new-causes.ensures.items)
    (no-runs joined_totals nothing own_steps_in own_cycles_in _ c.in_ok-profile.profile
    (λ i. ap (λ (l : List Totals). totals_at l i) c.in_ok-profile.ensures ∙ no_totals-at i) (ap own_steps_in c.in_ok-profile.ensures ∙ no_totals-summed.steps_are)
    (ap own_cycles_in c.in_ok-profile.ensures ∙ no_totals-summed.cycles_are))

pub loop-keys-preserved : goal.loop-keys-preserved
loop-keys-preserved g c =
    let keys = c.keys-item.result in
    let args = c.args_of.ensures in
    let joined = when_ok c.join.result c.if-is_err.ensures.negation in
    rw (c.in_ok-note.ensures, take_more c.args.runs.keys.now c.loop-keys.keys-index keys c.loop-keys-test.true, sym c.keys-item.is)
    (run-more joined_totals nothing own_steps_in own_cycles_in _ _ c.loop-keys.causes.items c.loop-keys.profile c.in_ok-run.run' c.join.new.self
    keys c.in_ok-run.cause c.loop-keys.invariant (rw (← args.keys, ← args.log, ← args.limit, ← args.free) c.in_ok-run.ensures.counted)
    (joined _ c.join.ensures.joined) (joined _ c.join.ensures.steps) (joined _ c.join.ensures.cycles))

pub returns-in_err-run-clause-refused : goal.returns-in_err-run-clause-refused
returns-in_err-run-clause-refused g c =
    let args = c.args_of.ensures in
    let index = c.loop-keys.keys-index in
    let fault = err_from_is_err_and c.from_residual-in_err-run.result c.from_residual-in_err-run.ensures.1 in
    let keys = c.keys-item.is ∙ get_or_default c.args.runs.keys.now index c.keys-item.result [] c.loop-keys-test.true in
    rw (fault.1, fault.2)
    (fault-of c.args.program.now c.args.runs.keys.now c.args.runs.strokes.now c.args.runs.limit c.args.runs.free c.in_err-run.field-0.0 index
    c.loop-keys-test.true (rw (← keys, ← args.keys, ← args.log, ← args.limit, ← args.free) c.in_err-run.ensures.refused))

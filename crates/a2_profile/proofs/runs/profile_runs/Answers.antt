use Rattle.std.proofs.Common.{sym, ap, ◌∙◌, List, []}
use Rattle.std.proofs.lemmas.List.{get_or_default, take_more}
use Rattle.std.proofs.lemmas.Result.{err_from_is_err_and}
use Rattle.a2_profile.specs.declared.profile.Count.{Count}
use Rattle.a2_profile.specs.Counts.{none, joined as both, count_at, steps_in, cycles_in}
use Rattle.a2_profile.proofs.CountLaws.{no_counts-at, no_counts-summed}
use Rattle.a2_profile.proofs.RunLaws.{no-runs, run-more, fault-of, when_ok}
use Rattle.a2_profile.proofs.runs.profile_runs.Goals as goal

pub loop-keys-init : goal.loop-keys-init
loop-keys-init g c =
    rw (c.new-causes.ensures.items)
    (no-runs both none steps_in cycles_in _ c.in_ok-profile.profile
    (λ i. ap (λ (l : List Count). count_at l i) c.in_ok-profile.ensures ∙ no_counts-at i) (ap steps_in c.in_ok-profile.ensures ∙ no_counts-summed.steps_are)
    (ap cycles_in c.in_ok-profile.ensures ∙ no_counts-summed.cycles_are))

pub loop-keys-preserved : goal.loop-keys-preserved
loop-keys-preserved g c =
    let keys = c.keys-item.result in
    let args = c.args_of.ensures in
    let joined = when_ok c.join.result c.if-is_err.ensures.negation in
    rw (c.in_ok-note.ensures, take_more c.args.runs.keys.now c.loop-keys.keys-index keys c.loop-keys-test.true, sym c.keys-item.is)
    (run-more both none steps_in cycles_in _ _ c.loop-keys.causes.items c.loop-keys.profile c.in_ok-run.run' c.join.new.self
    keys c.in_ok-run.cause c.loop-keys.invariant (rw (← args.keys, ← args.log, ← args.limit, ← args.free) c.in_ok-run.ensures.counted)
    (joined _ c.join.ensures.joined) (joined _ c.join.ensures.steps) (joined _ c.join.ensures.cycles))

pub returns-in_err-run-clause-refused : goal.returns-in_err-run-clause-refused
returns-in_err-run-clause-refused g c =
    let args = c.args_of.ensures in
    let index = c.loop-keys.keys-index in
    let fault = err_from_is_err_and c.from_residual-in_err-run.result c.from_residual-in_err-run.ensures.1 in
    let keys = c.keys-item.is ∙ get_or_default c.args.runs.keys.now index c.keys-item.result [] c.loop-keys-test.true in
    rw (fault.1, fault.2)
    (fault-of c.args.program.now c.args.runs.keys.now c.args.runs.strokes.now c.args.runs.limit c.args.runs.free c.in_err-run.field-0.0 index
    c.loop-keys-test.true (rw (← keys, ← args.keys, ← args.log, ← args.limit, ← args.free) c.in_err-run.ensures.refused))

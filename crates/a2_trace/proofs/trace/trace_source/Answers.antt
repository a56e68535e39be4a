use Rattle.std.proofs.Common.{subst, refl}
use Rattle.std.proofs.lemmas.Result.{err_from_is_err_and}
use Rattle.a2_stream.specs.Stream.{Sends, Breaks}
use Rattle.a2_stream.proofs.Joined.{Sends-then, Breaks-then, Breaks-more}
use Rattle.a2_machine.specs.declared.causes.Cause.{Cause}
use Rattle.a2_machine.specs.Output.{cause_line}
use Rattle.a2_timed_keys.specs.Finished.{Finished}
use Rattle.a2_timed_keys.specs.Rerun.{worlds_of, end_of}
use Rattle.a2_trace.specs.Trace.{trace}
use Rattle.a2_trace.specs.Traced.{lines_of}
use Rattle.a2_trace.proofs.trace.trace_source.Goals as goal

pub returns-in_err-trace_rest-clause-meaning : goal.returns-in_err-trace_rest-clause-meaning
returns-in_err-trace_rest-clause-meaning g c =
    let f = c.args.ended.now in
    let before = g.W.Output.taker c.args.writer.now in
    let after = g.W.Output.taker c.trace_rest.new.writer in
    let broke = subst (λ (r : Finished). Breaks before after (lines_of c.args.choice.now r (end_of r).steps)) c.in_ok-rerun.ensures.run c.in_err-trace_rest.ensures in
    let fault = err_from_is_err_and c.from_residual-in_err-trace_rest.result c.from_residual-in_err-trace_rest.ensures.1 in
    rw (fault.1, fault.2) (tt, trace c.args.choice.now (worlds_of f) (end_of f), refl, Breaks-more before after _ (cause_line f.cause) broke)

pub returns-in_err-write_cause-clause-meaning : goal.returns-in_err-write_cause-clause-meaning
returns-in_err-write_cause-clause-meaning g c =
    let f = c.args.ended.now in
    let before = g.W.Output.taker c.args.writer.now in
    let here = g.W.Output.taker c.trace_rest.new.writer in
    let after = g.W.Output.taker c.write_cause.new.writer in
    let sent = subst (λ (r : Finished). Sends before here (lines_of c.args.choice.now r (end_of r).steps)) c.in_ok-rerun.ensures.run c.in_ok-trace_rest.ensures in
    let broke = subst (λ (k : Cause). Breaks here after (cause_line k)) c.cause.ensures c.in_err-write_cause.ensures in
    let fault = err_from_is_err_and c.from_residual-in_err-write_cause.result c.from_residual-in_err-write_cause.ensures.1 in
    rw (fault.1, fault.2) (tt, trace c.args.choice.now (worlds_of f) (end_of f), refl, Breaks-then before here after _ _ sent broke)

pub returns-clause-meaning : goal.returns-clause-meaning
returns-clause-meaning g c =
    let f = c.args.ended.now in
    let before = g.W.Output.taker c.args.writer.now in
    let here = g.W.Output.taker c.trace_rest.new.writer in
    let after = g.W.Output.taker c.write_cause.new.writer in
    let sent = subst (λ (r : Finished). Sends before here (lines_of c.args.choice.now r (end_of r).steps)) c.in_ok-rerun.ensures.run c.in_ok-trace_rest.ensures in
    let last = subst (λ (k : Cause). Sends here after (cause_line k)) c.cause.ensures c.in_ok-write_cause.ensures in
    (trace c.args.choice.now (worlds_of f) (end_of f), refl, Sends-then before here after _ _ sent last)

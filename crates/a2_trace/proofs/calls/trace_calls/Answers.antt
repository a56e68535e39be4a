use Rattle.std.proofs.lemmas.Result.{err_from_is_err_and}
use Rattle.a2_stream.proofs.Joined.{Sends-nil}
use Rattle.a2_trace.proofs.calls.trace_calls.Goals as goal

pub returns-in_err-rerun-clause-meaning : goal.returns-in_err-rerun-clause-meaning
returns-in_err-rerun-clause-meaning g c =
    let fault = err_from_is_err_and c.from_residual.result c.from_residual.ensures.1 in
    rw (fault.1, fault.2) (Sends-nil (g.W.Output.taker c.args.writer.now))

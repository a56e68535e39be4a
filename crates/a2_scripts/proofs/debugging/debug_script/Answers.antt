use Rattle.std.proofs.Common.{ℕ, List, map, ap, ◌∙◌, refl}
use Rattle.std.proofs.lemmas.Result.{err_from_is_err_and}
use Rattle.std.specs.Borrow.{Bor}
use Rattle.a2_scripts.proofs.DebugScripting.{each_line, refused_script, script_broke}
use Rattle.a2_scripts.proofs.debugging.debug_script.Goals as goal

pub answer_all-requires-clause-each : goal.answer_all-requires-clause-each
answer_all-requires-clause-each g c = each_line

pub returns-in-Err-clause-meaning : goal.returns-in-Err-clause-meaning
returns-in-Err-clause-meaning g c =
    refused_script c.args.source.now c.args.script.now c.in_ok-program.program (g.W.Output.taker c.args.writer.now) c.in-Err.fault c.refusal.result
    c.in_ok-program.ensures.made c.in-Err.ensures.refused c.refusal.ensures

pub returns-in_err-answer_all-clause-meaning : goal.returns-in_err-answer_all-clause-meaning
returns-in_err-answer_all-clause-meaning g c =
    script_broke c.args.source.now c.args.script.now c.in_ok-program.program (map (λ (x : Bor (List ℕ)). x.now) c.as_slice.result.now) c.in_ok-debugger.debugger
    (g.W.Output.taker c.args.writer.now) (g.W.Output.taker c.answer_all.new.writer) c.from_residual-in_err-answer_all.result
    c.in_ok-program.ensures.made c.in-Ok.ensures.fits (ap (map (λ (x : Bor (List ℕ)). x.now)) c.as_slice.ensures.value ∙ c.in-Ok.ensures.found) c.in_ok-debugger.ensures
    c.from_residual-in_err-answer_all.ensures.0 c.from_residual-in_err-answer_all.ensures.1 c.in_err-answer_all.ensures

pub returns-in_err-answer_all-clause-no_reader : goal.returns-in_err-answer_all-clause-no_reader
returns-in_err-answer_all-clause-no_reader g c =
    let fault = err_from_is_err_and c.from_residual-in_err-answer_all.result c.from_residual-in_err-answer_all.ensures.1 in
    rw (fault.1, fault.2) refl

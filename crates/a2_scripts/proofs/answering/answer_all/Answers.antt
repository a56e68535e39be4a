use Rattle.std.proofs.Common.{arith}
use Rattle.a2_scripts.proofs.Replying.{front-nil, front-more, front-broke-echo, front-broke, front-all, none-left}
use Rattle.a2_scripts.proofs.answering.answer_all.Goals as goal

pub loop-line-init : goal.loop-line-init
loop-line-init g c = front-nil c.requires.debugger_at_start

pub returns-in_err-put_all : goal.returns-in_err-put_all
returns-in_err-put_all g c =
    front-broke-echo c.args.lines.now c.loop-line.line-index c.loop-line.invariant c.requires.each _ c.loop-line-test.true c.from_residual.result c.from_residual.ensures.0 c.in_err-put_all.ensures

pub returns-in_err-answer : goal.returns-in_err-answer
returns-in_err-answer g c =
    front-broke c.args.lines.now c.loop-line.line-index c.loop-line.invariant c.requires.each _ c.loop-line-test.true c.from_residual-in_err-answer.result c.from_residual-in_err-answer.ensures.0
    c.in_ok-put_all.ensures c.in_err-answer.ensures

pub loop-line-preserved : goal.loop-line-preserved
loop-line-preserved g c =
    front-more c.args.lines.now c.loop-line.line-index c.loop-line.invariant c.requires.each _ c.loop-line-test.true c.in_ok-put_all.ensures c.in_ok-answer.ensures

pub returns : goal.returns
returns g c = front-all (none-left c.args.lines.now c.loop-line.line-index c.loop-line.invariant (omega (arith, c.loop-line-test.false)))

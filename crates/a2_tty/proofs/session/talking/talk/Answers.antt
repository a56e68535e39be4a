use Rattle.std.proofs.Common.{ℕ, List, subst, sym}
use Rattle.std.proofs.lemmas.Result.{err_from_is_err_and}
use Rattle.a2_tty.specs.LineReading.{IsTextOf}
use Rattle.a2_tty.specs.Turns.{MeetsOr, IsQuit}
use Rattle.a2_tty.proofs.Pieces.{heard-some}
use Rattle.a2_tty.proofs.Answering.{far-nil, far-more, broke-prompt, failed, endless-lines, heard-ended, heard-broke-end, heard-quits, broke-answer}
use Rattle.a2_tty.proofs.session.talking.talk.Goals as goal

pub loop-init : goal.loop-init
loop-init g c = far-nil (MeetsOr g.P.Partner.meets) c.args.prompt.now c.args.partner.now (g.R.Input.giver c.args.reader.now) (g.W.Output.taker c.args.writer.now)

pub returns-in_err-put-clause-talk : goal.returns-in_err-put-clause-talk
returns-in_err-put-clause-talk g c =
    let fault = err_from_is_err_and c.from_residual.result c.from_residual.ensures.1 in
    rw (fault.1, fault.2) (broke-prompt (MeetsOr g.P.Partner.meets) c.args.prompt.now c.args.partner.now c.loop.partner (g.R.Input.giver c.args.reader.now) (g.R.Input.giver c.loop.reader) (g.W.Output.taker c.args.writer.now) (g.W.Output.taker c.loop.writer) (g.W.Output.taker c.put.new.writer) c.loop.invariant c.in_err-put.ensures)

pub returns-in_err-heard-clause-talk : goal.returns-in_err-heard-clause-talk
returns-in_err-heard-clause-talk g c =
    let fault = err_from_is_err_and c.from_residual-in_err-heard.result c.from_residual-in_err-heard.ensures.1 in
    rw (fault.1, fault.2) (failed (MeetsOr g.P.Partner.meets) c.args.prompt.now _ c.args.partner.now c.loop.partner (g.R.Input.giver c.args.reader.now) (g.R.Input.giver c.loop.reader) (g.R.Input.giver c.hear.new.reader) (g.W.Output.taker c.args.writer.now) (g.W.Output.taker c.loop.writer) (g.W.Output.taker c.put.new.writer) c.in_err-heard.ensures.fault c.loop.invariant c.in_ok-put.ensures)

pub returns-in_err-put-in-End-clause-talk : goal.returns-in_err-put-in-End-clause-talk
returns-in_err-put-in-End-clause-talk g c =
    let fault = err_from_is_err_and c.from_residual-in_err-put-in-End.result c.from_residual-in_err-put-in-End.ensures.1 in
    rw (fault.1, fault.2) (heard-broke-end (MeetsOr g.P.Partner.meets) c.args.prompt.now c.args.partner.now c.loop.partner (g.R.Input.giver c.args.reader.now) (g.R.Input.giver c.loop.reader) (g.R.Input.giver c.hear.new.reader) (g.W.Output.taker c.args.writer.now) (g.W.Output.taker c.loop.writer) (g.W.Output.taker c.put.new.writer) (g.W.Output.taker c.put-in-End.new.writer)
    c.in_ok-heard.heard c.hear.new.line.items c.end_of.result.now c.in-End.is c.end_of.ensures c.loop.invariant c.in_ok-put.ensures c.in_ok-heard.ensures.heard c.in_err-put-in-End.ensures)

pub returns-in-End-clause-talk : goal.returns-in-End-clause-talk
returns-in-End-clause-talk g c =
    heard-ended (MeetsOr g.P.Partner.meets) c.args.prompt.now c.args.partner.now c.loop.partner (g.R.Input.giver c.args.reader.now) (g.R.Input.giver c.loop.reader) (g.R.Input.giver c.hear.new.reader) (g.W.Output.taker c.args.writer.now) (g.W.Output.taker c.loop.writer) (g.W.Output.taker c.put.new.writer) (g.W.Output.taker c.put-in-End.new.writer)
    c.in_ok-heard.heard c.hear.new.line.items c.end_of.result.now c.in-End.is c.end_of.ensures c.loop.invariant c.in_ok-put.ensures c.in_ok-heard.ensures.heard c.in_ok-put-in-End.ensures

pub returns-in-Line-clause-talk : goal.returns-in-Line-clause-talk
returns-in-Line-clause-talk g c =
    heard-quits (MeetsOr g.P.Partner.meets) c.args.prompt.now c.args.partner.now c.loop.partner (g.R.Input.giver c.args.reader.now) (g.R.Input.giver c.loop.reader) (g.R.Input.giver c.hear.new.reader) (g.W.Output.taker c.args.writer.now) (g.W.Output.taker c.loop.writer) (g.W.Output.taker c.put.new.writer)
    c.in_ok-heard.heard c.hear.new.line.items c.in-Line.is
    (subst (λ (l : List ℕ). IsQuit l) c.as_slice.ensures.value (c.is_quit.ensures.0 c.if-is_quit.true))
    c.loop.invariant c.in_ok-put.ensures c.in_ok-heard.ensures.heard

pub returns-in_err-reply-in_default-clause-talk : goal.returns-in_err-reply-in_default-clause-talk
returns-in_err-reply-in_default-clause-talk g c =
    let fault = err_from_is_err_and c.from_residual-in_err-reply-in_default.result c.from_residual-in_err-reply-in_default.ensures.1 in
    let (said, loses, texts) = heard-some (g.R.Input.giver c.loop.reader) (g.R.Input.giver c.hear.new.reader) c.in_ok-heard.heard c.hear.new.line.items c.reply.ensures.some c.in_ok-heard.ensures.heard in
    let kept = subst (λ (l : List ℕ). IsTextOf c.in_ok-heard.heard said l) (sym c.as_slice-in_default.ensures.value) texts in
    rw (fault.1, fault.2) (broke-answer (MeetsOr g.P.Partner.meets) c.args.prompt.now c.args.partner.now c.loop.partner c.reply.new.partner (g.R.Input.giver c.args.reader.now) (g.R.Input.giver c.loop.reader) (g.R.Input.giver c.hear.new.reader) (g.W.Output.taker c.args.writer.now) (g.W.Output.taker c.loop.writer) (g.W.Output.taker c.put.new.writer) (g.W.Output.taker c.reply.new.writer) said _
    c.loop.invariant c.in_ok-put.ensures loses (c.in_err-reply-in_default.ensures.replied said kept))

pub loop-preserved : goal.loop-preserved
loop-preserved g c =
    let (said, loses, texts) = heard-some (g.R.Input.giver c.loop.reader) (g.R.Input.giver c.hear.new.reader) c.in_ok-heard.heard c.hear.new.line.items c.reply.ensures.some c.in_ok-heard.ensures.heard in
    let kept = subst (λ (l : List ℕ). IsTextOf c.in_ok-heard.heard said l) (sym c.as_slice-in_default.ensures.value) texts in
    far-more (MeetsOr g.P.Partner.meets) c.args.prompt.now c.args.partner.now c.loop.partner c.reply.new.partner (g.R.Input.giver c.args.reader.now) (g.R.Input.giver c.loop.reader) (g.R.Input.giver c.hear.new.reader) (g.W.Output.taker c.args.writer.now) (g.W.Output.taker c.loop.writer) (g.W.Output.taker c.put.new.writer) (g.W.Output.taker c.reply.new.writer) said
    c.loop.invariant c.in_ok-put.ensures loses c.in_ok-heard.ensures.counted (c.in_ok-reply-in_default.ensures.replied said kept)

pub returns-clause-talk : goal.returns-clause-talk
returns-clause-talk g c = endless-lines (MeetsOr g.P.Partner.meets) c.args.prompt.now c.args.partner.now c.loop.partner (g.R.Input.giver c.args.reader.now) (g.R.Input.giver c.loop.reader) (g.W.Output.taker c.args.writer.now) (g.W.Output.taker c.loop.writer) c.loop.invariant

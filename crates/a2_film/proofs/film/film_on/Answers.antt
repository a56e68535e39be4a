use Rattle.std.proofs.Common.{◌∙◌, List, ℕ, map, ap}
use Rattle.std.proofs.lemmas.Result.{err_from_is_err_and}
use Rattle.std.specs.Borrow.{Bor}
use Rattle.a2_stream.proofs.Joined.{Sends-nil}
use Rattle.a2_film.proofs.TextRuns.{film-done, film-broken, head-broken}
use Rattle.a2_film.proofs.film.film_on.Goals as goal

pub returns-clause-meaning : goal.returns-clause-meaning
returns-clause-meaning g c =
    film-done c.args.front.text.now c.args.front.titles.title.now c.args.front.titles.chapters.now c.args.front.free c.args.front.program.now
    (g.S.Steps.made c.args.steps.now) (g.S.Steps.world c.args.steps.now) (g.S.Steps.rest c.args.steps.now c.args.limit)
    c.machine.result.now (map (λ x. x.now) c.as_slice.result.now)
    (ap (λ (items : List (Bor (List ℕ))). map (λ x. x.now) items) c.as_slice.ensures.value ∙ c.in_ok-texts.ensures)
    c.machine.ensures.steps c.machine.ensures.world
    (g.W.Output.taker c.args.writer.now) (g.W.Output.taker c.put_head.new.writer) (g.W.Output.taker c.film_rest.new.writer)
    c.in_ok-cause.cause c.in_ok-cause.ensures.cause c.in_ok-put_head.ensures c.in_ok-cause.ensures.lines

pub returns-in_err-put_head-clause-meaning : goal.returns-in_err-put_head-clause-meaning
returns-in_err-put_head-clause-meaning g c =
    let fault = err_from_is_err_and c.from_residual-in_err-put_head.result c.from_residual-in_err-put_head.ensures.1 in
    rw (fault.1, fault.2)
    (head-broken c.args.front.text.now c.args.front.titles.title.now c.args.front.titles.chapters.now c.args.front.free c.args.front.program.now
    (g.S.Steps.made c.args.steps.now) (g.S.Steps.world c.args.steps.now) (g.S.Steps.rest c.args.steps.now c.args.limit)
    c.machine.result.now (map (λ x. x.now) c.as_slice.result.now)
    (ap (λ (items : List (Bor (List ℕ))). map (λ x. x.now) items) c.as_slice.ensures.value ∙ c.in_ok-texts.ensures)
    c.machine.ensures.steps c.machine.ensures.world
    (g.W.Output.taker c.args.writer.now) (g.W.Output.taker c.put_head.new.writer) c.in_err-put_head.ensures)

pub returns-in_err-cause-clause-meaning : goal.returns-in_err-cause-clause-meaning
returns-in_err-cause-clause-meaning g c =
    let fault = err_from_is_err_and c.from_residual-in_err-cause.result c.from_residual-in_err-cause.ensures.1 in
    rw (fault.1, fault.2)
    (film-broken c.args.front.text.now c.args.front.titles.title.now c.args.front.titles.chapters.now c.args.front.free c.args.front.program.now
    (g.S.Steps.made c.args.steps.now) (g.S.Steps.world c.args.steps.now) (g.S.Steps.rest c.args.steps.now c.args.limit)
    c.machine.result.now (map (λ x. x.now) c.as_slice.result.now)
    (ap (λ (items : List (Bor (List ℕ))). map (λ x. x.now) items) c.as_slice.ensures.value ∙ c.in_ok-texts.ensures)
    c.machine.ensures.steps c.machine.ensures.world
    (g.W.Output.taker c.args.writer.now) (g.W.Output.taker c.put_head.new.writer) (g.W.Output.taker c.film_rest.new.writer)
    c.in_ok-put_head.ensures c.in_err-cause.ensures.lines)

pub returns-in_err-texts-clause-meaning : goal.returns-in_err-texts-clause-meaning
returns-in_err-texts-clause-meaning g c =
    let fault = err_from_is_err_and c.from_residual.result c.from_residual.ensures.1 in
    rw (fault.1, fault.2) (Sends-nil (g.W.Output.taker c.args.writer.now))

pub returns-in_err-ram-clause-meaning : goal.returns-in_err-ram-clause-meaning
returns-in_err-ram-clause-meaning g c =
    let fault = err_from_is_err_and c.from_residual-in_err-ram.result c.from_residual-in_err-ram.ensures.1 in
    rw (fault.1, fault.2) (Sends-nil (g.W.Output.taker c.args.writer.now))

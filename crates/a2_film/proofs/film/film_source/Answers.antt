use Rattle.std.proofs.lemmas.Result.{err_from_is_err_and}
use Rattle.a2_stream.proofs.Joined.{Sends-nil}
use Rattle.a2_timed_keys.specs.Rerun.{worlds_of}
use Rattle.a2_film.specs.Film.{IsFilmOf}
use Rattle.a2_film.specs.Filmed.{IsFilm}
use Rattle.a2_film.specs.Runs.{part_of}
use Rattle.a2_film.proofs.TextRuns.{film-answers, film-of}
use Rattle.a2_film.proofs.film.film_source.Goals as goal

pub returns-clause-meaning : goal.returns-clause-meaning
returns-clause-meaning g c =
    let again = c.in_ok-again.again.rerun in
    rw c.text.ensures at
    (film-answers (λ _. ⊥)
    (IsFilm c.text.result.now c.args.titles.title.now c.args.titles.chapters.now c.is_free.result c.program.result.now
    again.steps (worlds_of again.run again.steps) (part_of again.run again.steps c.args.run.window.steps))
    (IsFilmOf c.text.result.now c.args.titles.title.now c.args.titles.chapters.now c.args.run.ended.now c.args.run.window)
    (g.W.Output.taker c.args.writer.now) (g.W.Output.taker c.film_on.new.writer) c.film_on.result
    (film-of c.text.result.now c.args.titles.title.now c.args.titles.chapters.now c.is_free.result c.program.result.now c.args.run.ended.now
    c.args.run.window again c.in_ok-again.ensures c.is_free.ensures c.program.ensures)
    c.film_on.ensures.meaning)

pub returns-in_err-again-clause-meaning : goal.returns-in_err-again-clause-meaning
returns-in_err-again-clause-meaning g c =
    let fault = err_from_is_err_and c.from_residual.result c.from_residual.ensures.1 in
    rw (fault.1, fault.2) (Sends-nil (g.W.Output.taker c.args.writer.now))

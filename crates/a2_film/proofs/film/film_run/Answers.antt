use Rattle.a2_machine.specs.ByteRun.{bytes}
use Rattle.a2_machine.specs.State.{code_of, world_of_state}
use Rattle.a2_run.specs.Started.{guard_of_run}
use Rattle.a2_film.specs.Film.{IsFilmFrom}
use Rattle.a2_film.specs.Filmed.{IsFilm, rest_of}
use Rattle.a2_film.proofs.TextRuns.{film-answers, film-from}
use Rattle.a2_film.proofs.film.film_run.Goals as goal

pub returns-clause-meaning : goal.returns-clause-meaning
returns-clause-meaning g c =
    let new = c.guard_by.new.machine in
    rw (c.text.ensures, c.program-program.ensures.is) at
    (film-answers (λ _. ⊥)
    (IsFilm c.text.result.now c.args.titles.title.now c.args.titles.chapters.now c.args.reel.free c.program-program.result.now
    new.state.steps (world_of_state new.state) (rest_of (code_of new.state) (world_of_state new.state) new.state.steps c.args.reel.limit))
    (IsFilmFrom c.text.result.now c.args.titles.title.now c.args.titles.chapters.now c.args.reel.free c.program-program.result.now
    (bytes (guard_of_run c.args.reel.free c.program-program.result.now)) c.args.reel.machine.state.steps
    (world_of_state c.args.reel.machine.state) c.args.reel.limit)
    (g.W.Output.taker c.args.writer.now) (g.W.Output.taker c.film_on.new.writer) c.film_on.result
    (film-from c.text.result.now c.args.titles.title.now c.args.titles.chapters.now c.args.reel.free c.program-program.result.now
    c.args.reel.machine new c.guard_by.ensures c.args.reel.limit c.requires c.film_on.ensures.range)
    c.film_on.ensures.meaning)

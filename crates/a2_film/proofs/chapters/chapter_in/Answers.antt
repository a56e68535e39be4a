use Rattle.std.proofs.Common.{codes, Some, None}
use Rattle.std.proofs.lemmas.Bool.Decides.{Decides-eqb}
use Rattle.std.proofs.lemmas.Slice.Eq.{strip_prefix_is}
use Rattle.a2_film.proofs.ChapterLaws.{tells_no_line, tells_no_step}
use Rattle.a2_film.proofs.chapters.chapter_in.Goals as goal

pub returns-in_err-number-in-Some-clause-none : goal.returns-in_err-number-in-Some-clause-none
returns-in_err-number-in-Some-clause-none c =
    rw c.from_residual.ensures (tells_no_line c.args.line.now c.in-Some.rest.now
    (strip_prefix_is Decides-eqb c.args.line.now (codes "line ") (Some c.in-Some.rest) c.in-Some.ensures.cases)
    c.in_err-number-in-Some.ensures.none)

pub returns-in_err-number-in-None-clause-none : goal.returns-in_err-number-in-None-clause-none
returns-in_err-number-in-None-clause-none c =
    rw c.from_residual-in_err-number-in-None.ensures (tells_no_step c.args.line.now
    (strip_prefix_is Decides-eqb c.args.line.now (codes "line ") None c.in-None.ensures.cases)
    c.in_err-number-in-None.ensures.none)

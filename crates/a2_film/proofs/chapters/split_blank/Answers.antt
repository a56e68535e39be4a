use Rattle.std.proofs.Common.{rules, ◌+◌, ◌==◌, not, refl, arith}
use Rattle.std.proofs.lemmas.List.{take_rest}
use Rattle.a2_film.proofs.ChapterLaws.{cut_some, cut_none}
use Rattle.a2_film.proofs.chapters.split_blank.Goals as goal

pub returns-then-end-line-clause-none : goal.returns-then-end-line-clause-none
returns-then-end-line-clause-none c =
    cut_none c.args.line.now c.front_len-end.result (c.front_len-end.ensures.is (λ x. not (x == 0x20)) (λ x b k. search rules))
    c.if-end-line.true

pub returns-clause-some : goal.returns-clause-some
returns-clause-some c =
    cut_some c.args.line.now _ _ c.front_len-end.result
    (c.front_len-end.ensures.is (λ x. not (x == 0x20)) (λ x b k. search rules))
    (omega (arith, c.front_len-end.ensures.within, c.if-end-line.false)) refl
    (take_rest c.args.line.now (c.front_len-end.result + 1))

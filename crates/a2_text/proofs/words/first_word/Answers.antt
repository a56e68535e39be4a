use Rattle.std.proofs.Common.{◌<◌, not, length, sym, ◌∙◌, arith, rules, length-drop}
use Rattle.std.proofs.lemmas.Bool.{eqb-true, eqb-false}
use Rattle.a2_text.specs.Bytes.{is_blank}
use Rattle.a2_text.proofs.WordLaws.{words-none, words-first, following-shorter}
use Rattle.a2_text.proofs.words.first_word.Goals as goal

pub returns-then-is_empty-clause-words : goal.returns-then-is_empty-clause-words
returns-then-is_empty-clause-words c =
    words-none c.args.text.now c.after_blanks-here.result.now c.after_blanks-here.ensures (eqb-true (length c.after_blanks-here.result.now) 0 (sym c.is_empty.ensures ∙ c.if-is_empty.true))

pub returns-clause-words : goal.returns-clause-words
returns-clause-words c =
    let here = c.after_blanks-here.result.now in
    let none = eqb-false (length here) 0 (sym c.is_empty.ensures ∙ c.if-is_empty.false) in
    let some : 0 < length here = omega arith in
    rw (c.split_at.ensures.front, c.split_at.ensures.back) (words-first c.args.text.now here c.front_len.result c.after_blanks-here.ensures some (c.front_len.ensures.is (λ b. not (is_blank b)) (λ b t k. search rules)))

pub returns-clause-shorter : goal.returns-clause-shorter
returns-clause-shorter c =
    let here = c.after_blanks-here.result.now in
    let none = eqb-false (length here) 0 (sym c.is_empty.ensures ∙ c.if-is_empty.false) in
    let some : 0 < length here = omega arith in
    let short = following-shorter c.args.text.now here c.front_len.result c.after_blanks-here.ensures some (c.front_len.ensures.is (λ b. not (is_blank b)) (λ b t k. search rules)) in
    rw c.split_at.ensures.back (omega (arith, length-drop c.front_len.result here))

use Rattle.std.proofs.Common.{length, sym, ◌∙◌, ap, Some, None, refl, arith}
use Rattle.std.proofs.lemmas.Bool.{false≢true, not-true, not-false}
use Rattle.std.proofs.lemmas.List.{nil_from_length, length-drop}
use Rattle.a2_syntax.specs.Reading.{run_len}
use Rattle.a2_syntax.proofs.LineLaws.{starred, line-parts, line-from, unlabelled, unnamed}
use Rattle.a2_syntax.proofs.line.line.Goals as goal

pub returns-then-is_starred : goal.returns-then-is_starred
returns-then-is_starred g c = starred c.args.text.now (sym c.is_starred.ensures ∙ c.if-is_starred.true)

pub returns-then-not-is_gap : goal.returns-then-not-is_gap
returns-then-not-is_gap g c = λ line h.
    (let (gap, _, _, _) = line-parts c.args.text.now _ _ (sym c.is_starred.ensures ∙ c.if-is_starred.false) c.split_name_bytes.ensures.word c.split_name_bytes.ensures.rest line h in
    false≢true (sym c.if-not-is_gap.true ∙ c.is_gap.ensures ∙ gap))

pub body-requires : goal.body-requires
body-requires g c = omega (arith, ap length c.split_name_bytes.ensures.rest, length-drop (run_len c.args.text.now) c.args.text.now, c.requires)

pub returns-in_default : goal.returns-in_default
returns-in_default g c = λ line h.
    (let (_, _, body, _) = line-parts c.args.text.now _ _ (sym c.is_starred.ensures ∙ c.if-is_starred.false) c.split_name_bytes.ensures.word c.split_name_bytes.ensures.rest line h in
    (rw c.in_default.is at c.in_ok-body.ensures) line.body body)

pub returns-then-needs_label : goal.returns-then-needs_label
returns-then-needs_label g c = λ line h.
    (let (_, word, body, fits) = line-parts c.args.text.now _ _ (sym c.is_starred.ensures ∙ c.if-is_starred.false) c.split_name_bytes.ensures.word c.split_name_bytes.ensures.rest line h in
    unlabelled _ line c.in-Some.body (rw (nil_from_length c.split_name_bytes.result.0.now c.if-word-eq0.true) at word) body (rw c.in-Some.is at c.in_ok-body.ensures) fits (not-true _ (sym c.needs_label.ensures ∙ c.if-needs_label.true)))

pub returns-then-word-eq0 : goal.returns-then-word-eq0
returns-then-word-eq0 g c =
    line-from c.args.text.now _ _ None c.in-Some.body c.split_name_bytes.ensures.word c.split_name_bytes.ensures.rest (sym c.is_gap.ensures ∙ c.if-not-is_gap.false)
    (nil_from_length c.split_name_bytes.result.0.now c.if-word-eq0.true) (rw c.in-Some.is at c.in_ok-body.ensures) (not-false _ (sym c.needs_label.ensures ∙ c.if-needs_label.false))

pub returns-then-not-is_name : goal.returns-then-not-is_name
returns-then-not-is_name g c = λ line h.
    (let (_, word, _, _) = line-parts c.args.text.now _ _ (sym c.is_starred.ensures ∙ c.if-is_starred.false) c.split_name_bytes.ensures.word c.split_name_bytes.ensures.rest line h in
    unnamed _ line.label word c.if-word-eq0.false (sym c.is_name.ensures ∙ c.if-not-is_name.true))

pub returns : goal.returns
returns g c =
    line-from c.args.text.now _ _ (Some c.in_ok-name_of.field-0) c.in-Some.body c.split_name_bytes.ensures.word c.split_name_bytes.ensures.rest (sym c.is_gap.ensures ∙ c.if-not-is_gap.false)
    (c.in_ok-name_of.ensures, sym c.is_name.ensures ∙ c.if-not-is_name.false) (rw c.in-Some.is at c.in_ok-body.ensures) refl

use Rattle.std.proofs.Common.{◌≡◌, ◌≤◌, sym, ◌∙◌, ap, length, None, Some, arith, inl, refl}
use Rattle.std.proofs.lemmas.Bool.{false≢true}
use Rattle.std.proofs.lemmas.List.{length-drop}
use Rattle.std.proofs.lemmas.List.Elements.{All-weaker}
use Rattle.std.proofs.lemmas.Result.{IfOk-weaker}
use Rattle.a2_syntax.specs.Pieces.{is_over}
use Rattle.a2_syntax.specs.Reading.{run_len}
use Rattle.a2_syntax.proofs.PieceLaws.{following-within, Spells-over, Spells-short}
use Rattle.a2_syntax.proofs.LineLaws.{body-parts, body-found}
use Rattle.a2_syntax.proofs.line.body.Goals as goal

pub returns-then-is_over : goal.returns-then-is_over
returns-then-is_over g c = inl (Spells-over c.args.text.now (ap is_over (sym c.after_blanks-here.ensures) ∙ sym c.is_over.ensures ∙ c.if-is_over.true), refl)

pub returns-then-not-is_gap : goal.returns-then-not-is_gap
returns-then-not-is_gap g c = λ b h.
    (let (_, _, gap, _, _, _) = body-parts c.args.text.now _ _ _ c.after_blanks-here.ensures (sym c.is_over.ensures ∙ c.if-is_over.false) c.split_name_bytes.ensures.word c.split_name_bytes.ensures.rest b h in
    false≢true (sym c.if-not-is_gap.true ∙ c.is_gap.ensures ∙ gap))

pub returns-in_default : goal.returns-in_default
returns-in_default g c = λ b h.
    (let (o, _, _, name, _, _) = body-parts c.args.text.now _ _ _ c.after_blanks-here.ensures (sym c.is_over.ensures ∙ c.if-is_over.false) c.split_name_bytes.ensures.word c.split_name_bytes.ensures.rest b h in
    let never : None ≡ Some o = sym c.in_default.is ∙ c.named.ensures.only o (sym name) in cc)

pub pieces-requires : goal.pieces-requires
pieces-requires g c =
    omega (arith, ap length c.split_name_bytes.ensures.rest, length-drop (run_len c.after_blanks-here.result.now) c.after_blanks-here.result.now, following-within c.args.text.now c.after_blanks-here.result.now c.after_blanks-here.ensures, c.requires)

pub returns-then-not-branch : goal.returns-then-not-branch
returns-then-not-branch g c = λ b h.
    (let (_, ps, _, _, spells, _) = body-parts c.args.text.now _ _ _ c.after_blanks-here.ensures (sym c.is_over.ensures ∙ c.if-is_over.false) c.split_name_bytes.ensures.word c.split_name_bytes.ensures.rest b h in
    c.in_ok-pieces.ensures.none c.if-not-branch.true ps spells)

pub operation_body-requires : goal.operation_body-requires
operation_body-requires g c =
    let after = c.split_name_bytes.result.1.now in
    let most : length after ≤ 255 = omega (arith, ap length c.split_name_bytes.ensures.rest, length-drop (run_len c.after_blanks-here.result.now) c.after_blanks-here.result.now, following-within c.args.text.now c.after_blanks-here.result.now c.after_blanks-here.ensures, c.requires) in
    let spells = c.in_ok-pieces.ensures.read c.if-not-branch.false in
    record {
      few = omega (arith, most, c.in_ok-pieces.ensures.few c.if-not-branch.false, ap length c.as_slice.ensures.value);
      short = rw c.as_slice.ensures.value (All-weaker (λ p. length p ≤ length after) (λ p. length p ≤ 255) (λ p h. omega (arith, most, h)) _ (Spells-short after _ spells));
    }

pub returns-in-Some-2 : goal.returns-in-Some-2
returns-in-Some-2 g c =
    let (pieces, spells, does) = rw c.in-Some-2.is at c.in_ok-body.ensures in
    body-found c.args.text.now _ _ _ c.in-Some.operation pieces (Some c.in-Some-2.body) c.after_blanks-here.ensures (sym c.is_over.ensures ∙ c.if-is_over.false) c.split_name_bytes.ensures.word c.split_name_bytes.ensures.rest (sym c.is_gap.ensures ∙ c.if-not-is_gap.false) (rw c.in-Some.is at c.named.ensures.found) spells does

pub returns : goal.returns
returns g c = IfOk-weaker _ _ _
    (λ o. body-found c.args.text.now _ _ _ c.in-Some.operation _ o c.after_blanks-here.ensures (sym c.is_over.ensures ∙ c.if-is_over.false) c.split_name_bytes.ensures.word c.split_name_bytes.ensures.rest (sym c.is_gap.ensures ∙ c.if-not-is_gap.false) (rw c.in-Some.is at c.named.ensures.found) (c.in_ok-pieces.ensures.read c.if-not-branch.false))
    (rw c.as_slice.ensures.value at c.operation_body.ensures)

use Rattle.std.proofs.Common.{◌≡◌, ◌++◌, ◌⊎◌, inr, ap, sym, subst, ◌∙◌}
use Rattle.std.specs.Prelude.{Result, Ok, Err, OnOk}
use Rattle.a2_expand.specs.Expressions.{Says, pieces}
use Rattle.a2_expand.specs.Pieces.{pieces_of}
use Rattle.a2_expand.specs.Written.{Writes}
use Rattle.a2_expand.proofs.operand.put_expression.Goals as goal

or_second : {X E : Type 0} (P Q : Type 0) (r : Result X E) → OnOk r Q → OnOk r (P ⊎ Q)
or_second P Q (Ok x) q = inr q
or_second P Q (Err e) q = tt

-- what the tokens say, the text says
pub returns : goal.returns
returns g c = λ z says.
    let constants = c.args.known.now.constants.now in
    let same : pieces c.as_slice.result.now ≡ pieces_of c.args.text.now = ap pieces c.as_slice.ensures.value ∙ c.in_ok-tokens.ensures in
    or_second (c.put_tokens.new.out.items ≡ c.args.out.now.items ++ c.args.text.now)
    (Writes constants (pieces_of c.args.text.now) c.args.width c.args.out.now.items c.put_tokens.new.out.items) c.put_tokens.result
    (subst (λ ps. OnOk c.put_tokens.result (Writes constants ps c.args.width c.args.out.now.items c.put_tokens.new.out.items)) same
    (c.put_tokens.ensures z (subst (λ ps. Says constants ps z) (sym same) says)))

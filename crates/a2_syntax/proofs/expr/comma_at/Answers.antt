use Rattle.std.proofs.Common.{◌+◌, ◌∷◌, drop, sym, ap, ◌∙◌}
use Rattle.std.proofs.lemmas.List.{at_drop_more}
use Rattle.a2_syntax.proofs.ExprLaws.{now, no_piece, byte-is}
use Rattle.a2_syntax.proofs.expr.comma_at.Goals as goal

pub returns-then-is_byte-clause-comma : goal.returns-then-is_byte-clause-comma
returns-then-is_byte-clause-comma c = λ lt.
    at_drop_more now c.args.pieces.now c.loop-i.i no_piece lt ∙ ap (λ z. z ∷ now (drop (c.loop-i.i + 1) c.args.pieces.now)) (byte-is 44 _ (sym c.is_byte.ensures ∙ c.if-is_byte.true))

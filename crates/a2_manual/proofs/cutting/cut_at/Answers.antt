use Rattle.std.proofs.Common.{◌+◌, not, eqb, arith, rules}
use Rattle.std.proofs.lemmas.List.{take_rest}
use Rattle.a2_manual.proofs.Pieces.{pieces_more, pieces_last}
use Rattle.a2_manual.proofs.cutting.cut_at.Goals as goal

pub returns-then-end-text-clause-pieces : goal.returns-then-end-text-clause-pieces
returns-then-end-text-clause-pieces c =
    rw (take_rest c.args.text.now (c.front_len-end.result + 1))
    (pieces_more c.args.mark c.front_len-end.result c.args.text.now (c.front_len-end.ensures.is (λ x. not (eqb x c.args.mark)) (λ x t k. search rules)) (omega arith))

pub returns-else-end-text-clause-pieces : goal.returns-else-end-text-clause-pieces
returns-else-end-text-clause-pieces c =
    pieces_last c.args.mark c.front_len-end.result c.args.text.now (c.front_len-end.ensures.is (λ x. not (eqb x c.args.mark)) (λ x t k. search rules)) (omega arith)

use Rattle.std.proofs.Common.{arith, rules}
use Rattle.a2_stream.proofs.Joined.{broke, broke_within}
use Rattle.a2_profile.specs.Row.{text_after}
use Rattle.a2_profile.proofs.row.put_texts.Goals as goal

pub returns-in_err-put_text : goal.returns-in_err-put_text
returns-in_err-put_text g c =
    broke _ _ _ _ (search rules)
    (broke_within (λ text. text_after text.now) c.args.texts.now c.loop-text.text-index _ _ _ _ (omega arith) c.loop-text.invariant c.in_err-put_text.ensures)

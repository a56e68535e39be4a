use Rattle.std.proofs.Common.{arith}
use Rattle.a2_formats.proofs.LoadingLaws.{hex_bytes-tested}
use Rattle.a2_formats.proofs.loading.pair_at.Goals as goal

pub returns-clause-bytes : goal.returns-clause-bytes
returns-clause-bytes c =
    hex_bytes-tested c.args.text.now _ _ _ (λ i. omega (arith, c.type_inv.text i)) c.in-len2-up.len_at_least c.digit_value-high.ensures c.digit_value-low.ensures c.ends_word.ensures c.if-high-low.false

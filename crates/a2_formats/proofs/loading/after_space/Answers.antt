use Rattle.a2_formats.proofs.LoadingLaws.{hex_bytes-after_space}
use Rattle.a2_formats.proofs.loading.after_space.Goals as goal

pub returns-then-c-eq32-clause-bytes : goal.returns-then-c-eq32-clause-bytes
returns-then-c-eq32-clause-bytes c = hex_bytes-after_space c.args.text.now c.in-len1-up.len_at_least c.if-c-eq32.true

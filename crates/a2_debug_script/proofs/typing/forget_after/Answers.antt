use Rattle.std.proofs.Common.{rules}
use Rattle.std.specs.Prelude.{nat_le}
use Rattle.std.proofs.lemmas.Fn.{filter_same}
use Rattle.a2_debug_script.proofs.typing.forget_after.Goals as goal

pub returns-clause-items : goal.returns-clause-items
returns-clause-items g c = filter_same _ (λ t. nat_le t.count c.args.count) _ (λ x b f' k. search rules) _ _ c.retain.ensures.filtered

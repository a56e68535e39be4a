use Rattle.std.specs.Prelude.{not}
use Rattle.std.proofs.Common.{rules}
use Rattle.arrayvec.proofs.ArrayVecLemmas.{filter-from_retain}
use Rattle.a2_debugger.specs.Stops.{is_same_watch}
use Rattle.a2_debugger.proofs.inspector.unwatch.Goals as goal

pub returns : goal.returns
returns c = filter-from_retain _ (λ w. not (is_same_watch c.args.watch w)) _ (λ x b f' y k. search rules) _ _ c.retain.ensures.filtered
